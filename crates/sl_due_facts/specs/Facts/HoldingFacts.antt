-- What is known of holdings: whose they are, that they stand apart, and what stands behind an exclusive one as long as it is held.
use Rattle.sl_area.specs.AreaLayout.{is_base}
use Rattle.sl_run.specs.LawfulGrant.{HasTaken}
use Rattle.sl_run.specs.LawfulModes.{LawfulExclusiveGrant}
use Rattle.sl_trace.specs.Leases.{Area_read, Phase1_read, Phase1_write, Phase2_read, Phase2_write, block_submitted, ended_ballots, freed, is_at, lease_calls, open_ballot}
use Rattle.sl_sector.specs.declared.sector.Block.{Block}
use Rattle.sl_sector.specs.declared.sector.Owner.{Owner}
use Rattle.sl_trace.specs.Sessions.{is_joined, session_numbered}
use Rattle.sl_trace.specs.declared.session.Session.{Session}
use Rattle.sl_due_facts.specs.Facts.HeardCall.{IsOpen}
use Rattle.sl_trace.specs.Traces.{Child, Setting, Submitted, Trace, children, held_by, holdings, is_shared, next_child, same_place, spot_of_grant}
use Rattle.sl_trace.specs.declared.effects.Grant.{Grant}
use Rattle.sl_trace.specs.declared.effects.Spot.{Spot}
use Rattle.std.specs.Prelude.{Bool, Contains, IsTrue, None, Option, Some, false, length, true, ℕ, ◌<◌, ◌||◌, ◌≡◌, ◌≤◌}

-- Whether the call is a step of a ballot, up to the read that ends it.
abbrev pub is_ballot_call : Submitted → Bool
is_ballot_call m = is_at Area_read m || (is_at Phase1_write m || (is_at Phase1_read m || (is_at Phase2_write m || is_at Phase2_read m)))

-- What stands behind an exclusive holding. All that its grant had behind it still does, for an orphan of it is granted again.
pub record StandsExclusive (st : Setting) (t : Trace) (heard : Option ℕ) (s : Session) (at : Spot) (n : ℕ) : Type 0 where
  pub taken : HasTaken st t s at n
  pub ballot : LawfulExclusiveGrant st t s at n
  pub not_freed : freed (lease_calls st t s at) < n
  -- the block that was submitted last is in the instance, with the ballot's number
  pub own : Block
  pub known : block_submitted (lease_calls st t s at) ≡ Some own
  pub under : (own.lver ≡ n) × (own.mbal ≡ ballot.own.mbal)
  -- no ballot goes on, and none ended in a later instance, so what settling frees lies below
  pub concluded : open_ballot st.layout (lease_calls st t s at) ≡ None
  pub ended : (p : ℕ × Owner) → Contains (ended_ballots st.layout (lease_calls st t s at)) p → p.0 ≤ n
  pub idle : (m : Submitted) → Contains (lease_calls st t s at) m → IsOpen t heard m → is_ballot_call m ≡ false

pub record HoldingFacts (st : Setting) (t : Trace) (heard : Option ℕ) : Type 0 where
  pub owned : (g : Grant) → Contains (holdings t) g →
      (s : Session) × (session_numbered st t g.session ≡ Some s) × (is_joined t s ≡ true) × (g.lockspace ≡ s.lockspace) × IsTrue (is_base st.layout g.offset)
  -- an exclusive one is alone at its place
  pub alone : (g h : Grant) → Contains (holdings t) g → Contains (holdings t) h → IsTrue (same_place h.path h.offset g.path g.offset) →
      is_shared g.mode ≡ false → h ≡ g
  -- a process has one of a place
  pub single : (g : Grant) → Contains (holdings t) g → length (held_by (holdings t) g.process g.path g.offset) ≡ 1
  -- no process that holds, and no child, has a number that is still to be given
  pub born : (g : Grant) → Contains (holdings t) g → g.process < next_child t
  pub given : (k : Child) → Contains (children t) k → k.process < next_child t
  pub stands : (g : Grant) (s : Session) → Contains (holdings t) g → session_numbered st t g.session ≡ Some s → is_shared g.mode ≡ false →
      StandsExclusive st t heard s (spot_of_grant g) g.lver
