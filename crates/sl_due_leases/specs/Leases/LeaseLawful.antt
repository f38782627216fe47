-- What the laws of areas, blocks and leaders ask of one call, at the trace as it stood where the call was made.
use Rattle.sl_due_facts.specs.Acts.TraceSoFar.{entry_of}
use Rattle.sl_due.specs.Steps.{Step}
use Rattle.sl_run.specs.LawfulArea.{LawfulAgain, LawfulArea, LawfulAreaWrite, LawfulLeaseRead, is_area_work, is_block_work, is_delta_record, open_block_work}
use Rattle.sl_run.specs.LawfulBlock.{LawfulBlock, LawfulBlockWrite, LawfulPhase2Read, LawfulTurn}
use Rattle.sl_run.specs.LawfulLeader.{LawfulLeader, LawfulLeaderWrite}
use Rattle.sl_trace.specs.Leases.{Phase2_read, base_turn, block_written, is_again, is_at, leader_written, lease_calls, spot_of_call, turn_written}
use Rattle.sl_sector.specs.declared.sector.Block.{Block}
use Rattle.sl_sector.specs.declared.sector.Leader.{Leader}
use Rattle.sl_sector.specs.declared.sector.Rec.{Rec}
use Rattle.sl_trace.specs.Sessions.{is_active, joined_after}
use Rattle.sl_trace.specs.declared.session.Session.{Session}
use Rattle.sl_trace.specs.Traces.{Setting, Submitted, Trace, record_of}
use Rattle.sl_trace.specs.declared.effects.Purpose.TheVariants.{SeeRequest}
use Rattle.std.specs.Prelude.{IsFalse, IsTrue, Some, [], is_some, ℕ, ◌&&◌, ◌≡◌}

pub record LeaseLawful (st : Setting) (t : Trace) (s : Session) (c : Submitted) : Type 0 where
  pub active : IsTrue (is_area_work c.call.purpose) → IsTrue (is_active st t s)
  pub writes : (r : Rec) → record_of c.call.op ≡ Some r → IsFalse (is_delta_record r) → IsTrue (is_area_work c.call.purpose) × LawfulAreaWrite st t s c r
  pub alone : IsTrue (is_block_work c && is_area_work c.call.purpose) → open_block_work st t s (spot_of_call st.layout c) ≡ []
  pub reads : LawfulLeaseRead st c
  pub sees : c.call.purpose ≡ SeeRequest → IsTrue (is_some (joined_after t s))
  pub again : IsTrue (is_again c) → LawfulAgain st t s (spot_of_call st.layout c) c
  pub turn : (turn : ℕ) → turn_written c ≡ Some turn → LawfulTurn turn (base_turn st.layout s.id (lease_calls st t s (spot_of_call st.layout c)))
  pub block : (b : Block) → block_written c ≡ Some b → LawfulBlockWrite st t s c b
  pub phase2 : IsTrue (is_at Phase2_read c) → LawfulPhase2Read st t s (spot_of_call st.layout c) c
  pub leader : (l : Leader) → leader_written c ≡ Some l → LawfulLeaderWrite st t s (spot_of_call st.layout c) c l

-- The three laws of the newest entry, of a step as it stands.
pub record LeaseLaws (x : Step) : Type 0 where
  pub area : LawfulArea x.setting x.past (entry_of x)
  pub block : LawfulBlock x.setting x.past (entry_of x)
  pub leader : LawfulLeader x.setting x.past (entry_of x)
