-- What every law asks of one call, at the trace as it stood where the call was made.
use Rattle.sl_run.specs.LawfulArea.{LawfulAgain, LawfulAreaWrite, LawfulLeaseRead, is_area_work, is_block_work, is_delta_record, open_block_work}
use Rattle.sl_run.specs.LawfulBlock.{LawfulBlockWrite, LawfulPhase2Read, LawfulTurn}
use Rattle.sl_run.specs.LawfulCalls.{may_submit}
use Rattle.sl_run.specs.LawfulDelta.{LawfulDeltaCall, is_on_own_sector}
use Rattle.sl_run.specs.LawfulLeader.{LawfulLeaderWrite}
use Rattle.sl_run.specs.LawfulModes.{LawfulMode}
use Rattle.sl_run.specs.LawfulParting.{is_leaving_write}
use Rattle.sl_run.specs.LawfulValue.{LawfulValueRead, LawfulValueWrite}
use Rattle.sl_trace.specs.Leases.{Phase2_read, base_turn, block_written, is_again, is_at, leader_written, lease_calls, spot_of_call, turn_written, value_written}
use Rattle.sl_sector.specs.declared.sector.Block.{Block}
use Rattle.sl_sector.specs.declared.sector.Leader.{Leader}
use Rattle.sl_sector.specs.declared.sector.Rec.{Rec}
use Rattle.sl_sector.specs.declared.sector.ValueRec.{ValueRec}
use Rattle.sl_trace.specs.Sessions.{has_open_delta, is_active, is_delta_purpose, is_leaving, is_recovering, is_survey_purpose, joined_after, stage_of}
use Rattle.sl_trace.specs.declared.session.Session.{Session}
use Rattle.sl_trace.specs.Traces.{Setting, Submitted, Trace, is_write, record_of}
use Rattle.sl_trace.specs.declared.effects.Purpose.TheVariants.{SeeRequest, ValueRead}
use Rattle.std.specs.Prelude.{IsFalse, IsTrue, Some, false, is_some, not, true, [], ℕ, ◌&&◌, ◌≡◌}

-- One field for what each law asks of a call of this session.
pub record CallIsLawful (st : Setting) (t : Trace) (s : Session) (c : Submitted) : Type 0 where
  pub alive : IsTrue (may_submit (stage_of t s))
  pub delta : LawfulDeltaCall st t s c c.call.purpose
  pub placed : IsTrue (is_delta_purpose c.call.purpose && not (is_survey_purpose c.call.purpose)) → IsTrue (is_on_own_sector st s c)
  pub apart : IsTrue (is_delta_purpose c.call.purpose) → has_open_delta t s ≡ false
  pub active : IsTrue (is_area_work c.call.purpose) → IsTrue (is_active st t s)
  pub writes : (w : Rec) → record_of c.call.op ≡ Some w → IsFalse (is_delta_record w) → IsTrue (is_area_work c.call.purpose) × LawfulAreaWrite st t s c w
  pub alone : IsTrue (is_block_work c && is_area_work c.call.purpose) → open_block_work st t s (spot_of_call st.layout c) ≡ []
  pub reads : LawfulLeaseRead st c
  pub sees : c.call.purpose ≡ SeeRequest → IsTrue (is_some (joined_after t s))
  pub again : IsTrue (is_again c) → LawfulAgain st t s (spot_of_call st.layout c) c
  pub turn : (turn : ℕ) → turn_written c ≡ Some turn → LawfulTurn turn (base_turn st.layout s.id (lease_calls st t s (spot_of_call st.layout c)))
  pub block : (b : Block) → block_written c ≡ Some b → LawfulBlockWrite st t s c b
  pub phase2 : IsTrue (is_at Phase2_read c) → LawfulPhase2Read st t s (spot_of_call st.layout c) c
  pub leader : (l : Leader) → leader_written c ≡ Some l → LawfulLeaderWrite st t s (spot_of_call st.layout c) c l
  pub mode : (b : Block) → block_written c ≡ Some b → LawfulMode st t s c b
  pub quiet : IsTrue (is_recovering st t s) → is_write c.call.op ≡ false
  pub few : IsTrue (is_leaving st t s) → is_write c.call.op ≡ true → IsTrue (is_leaving_write c.call.purpose)
  pub value : (v : ValueRec) → value_written c ≡ Some v → LawfulValueWrite st t s (spot_of_call st.layout c) v
  pub value_read : (j : ℕ) → c.call.purpose ≡ ValueRead j → LawfulValueRead st t s (spot_of_call st.layout c) c
