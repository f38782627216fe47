-- What stands where a session writes a mode and where it is granted a resource.
use Rattle.sl_run.specs.LawfulModes.{LawfulExclusiveGrant}
use Rattle.sl_run.specs.LawForms.{cut_at}
use Rattle.sl_run_law.specs.Leases.CallFronts.{Submission}
use Rattle.sl_run_law.specs.Leases.Ways.{Ended}
use Rattle.sl_trace.specs.Leases.{Mode_set, freed, has_shared_on, is_at, lease_calls}
use Rattle.sl_sector.specs.declared.sector.Block.{Block}
use Rattle.sl_trace.specs.Sessions.{generation_of, me}
use Rattle.sl_trace.specs.declared.session.Session.{Session}
use Rattle.sl_trace.specs.Traces.{Setting, Submitted, Trace}
use Rattle.sl_trace.specs.declared.effects.Grant.{Grant}
use Rattle.sl_trace.specs.declared.effects.Spot.{Spot}
use Rattle.std.specs.Prelude.{IsTrue, List, true, ◌<◌, ◌||◌, ◌∷◌, ◌≡◌, ◌↔◌}

-- A block has a mode just where a shared holding stands, or where one is about to be granted; the mode names the session's generation.
pub record ModeRests (es : Trace) (s : Session) (at : Spot) (older : List Submitted) (c : Submitted) (b : Block) : Type 0 where
  pub submission : Submission es c older
  pub exact : (b.shared ≡ true) ↔ IsTrue (has_shared_on (cut_at submission.place submission.entry ∷ submission.past) s at || is_at Mode_set c)
  pub own : b.shared ≡ true → b.mode_gen ≡ generation_of (cut_at submission.place submission.entry ∷ submission.past) s

-- An exclusive grant comes after an own ballot of its instance that ended with the session, above each free of the session, and after a
-- look at all blocks that shows no other's mode. The trace is the one up to the grant.
pub record ExclusiveRests (st : Setting) (es : Trace) (s : Session) (at : Spot) (g : Grant) : Type 0 where
  pub won : Ended st.layout (lease_calls st es s at) (g.lver, me es s)
  pub not_freed : freed (lease_calls st es s at) < g.lver
  pub looked : LawfulExclusiveGrant st es s at g.lver
