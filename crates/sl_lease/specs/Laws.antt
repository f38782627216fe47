-- What is kept of a lease is what a host keeps of it.
use Rattle.sl_area.specs.AreaSizes.{Layout}
use Rattle.sl_host_state.specs.HeardInputs.{kept_heard, lease_hearing, turn_heard}
use Rattle.sl_host_state.specs.KeptState.{LeaseState, PairState}
use Rattle.sl_host_state.specs.MadeEffects.{lease_calling}
use Rattle.sl_host_state.specs.declared.kept_parts.LeaseCall.{LeaseCall}
use Rattle.sl_host_state.specs.declared.kept_parts.OpenCall.{OpenCall}
use Rattle.sl_lease.specs.LeaseQuestions.{leader_given, read_given}
use Rattle.sl_lease.specs.Changes.{after_block, after_failure, after_kept, after_leader, after_reading, read_told, turn_told, write_told}
use Rattle.sl_lease.specs.Side.{layout_in}
use Rattle.sl_lease.specs.declared.side.Side.{Side}
use Rattle.sl_sector.specs.declared.sector.Block.{Block}
use Rattle.sl_sector.specs.declared.sector.Leader.{Leader}
use Rattle.sl_sector.specs.declared.sector.PairBlock.{PairBlock}
use Rattle.sl_sector.specs.declared.sector.Rec.TheVariants.{BlockIs, LeaderIs, PairIs, PairLeaderIs}
use Rattle.sl_trace.specs.LeaseDecisions.{asked_again}
use Rattle.sl_trace.specs.Leases.{is_second}
use Rattle.sl_trace.specs.Traces.{Submitted}
use Rattle.sl_trace.specs.declared.effects.Call.{Call}
use Rattle.sl_trace.specs.declared.effects.LeaseStep.{LeaseStep}
use Rattle.sl_trace.specs.declared.effects.Op.TheVariants.{ReadSectors, WriteRecord}
use Rattle.sl_trace.specs.declared.effects.Op.{Op}
use Rattle.sl_trace.specs.declared.effects.Purpose.TheVariants.{Lease}
use Rattle.sl_trace.specs.declared.effects.Work.{Work}
use Rattle.sl_trace.specs.declared.input.Answer.TheVariants.{Failed, Read, Written}
use Rattle.std.specs.Prelude.{Bool, IsTrue, List, None, Option, Some, cond, false, is_some, true, unwrap_or, [], ℕ, ◌≡◌}

-- This call, at a step of a lease's work, that does this.
abbrev pub at_step : Submitted → Work → LeaseStep → Op → Submitted
at_step m work step op = let c : Call = m.call in record m { call = record c { purpose = Lease work step; op = op } }

-- This open call, at a step of a lease's work.
abbrev pub open_at_step : OpenCall → Work → LeaseStep → OpenCall
open_at_step c work step = record c { purpose = Lease work step }

-- The call frees nothing, clears no mode and writes no turn.
abbrev pub IsReadCall : LeaseCall → Type 0
IsReadCall w = (w.frees ≡ None) × (w.clears ≡ false) × (w.turn ≡ None)

-- What is kept for a read at this step: for a second one what the first gave.
abbrev pub first_by : PairState → LeaseStep → List (Option PairBlock)
first_by p step = cond (is_second step) (unwrap_or p.first []) []

-- The read that gave these bytes is not made once more, and of the first one something is kept, if it is the second.
abbrev pub IsGiven : Layout → PairState → LeaseStep → List ℕ → Type 0
IsGiven g p step bytes = (asked_again g bytes step ≡ None) × (is_second step ≡ true → IsTrue (is_some p.first))

-- Calls and answers, and a host's state.
pub record HostsKeepTheSame : Type 0 where
  pub reads : (m : Submitted) (work : Work) (step : LeaseStep) (n : ℕ) (l : LeaseState)
      → lease_calling (at_step m work step (ReadSectors n)) l ≡ after_reading m.call.number work step l
  pub writes_block : (m : Submitted) (work : Work) (step : LeaseStep) (b : Block) (l : LeaseState)
      → lease_calling (at_step m work step (WriteRecord (BlockIs b))) l ≡ after_block m.call.number work step None b l
  pub writes_pair : (m : Submitted) (work : Work) (step : LeaseStep) (p : PairBlock) (l : LeaseState)
      → lease_calling (at_step m work step (WriteRecord (PairIs p))) l ≡ after_block m.call.number work step (Some p.turn) p.block l
  pub writes_leader : (m : Submitted) (work : Work) (step : LeaseStep) (d : Leader) (l : LeaseState)
      → lease_calling (at_step m work step (WriteRecord (LeaderIs d))) l ≡ after_leader m.call.number work step d l
  pub writes_pair_leader : (m : Submitted) (work : Work) (step : LeaseStep) (d : Leader) (l : LeaseState)
      → lease_calling (at_step m work step (WriteRecord (PairLeaderIs d))) l ≡ after_leader m.call.number work step d l
  -- a read, by itself or with what the first one gave
  pub read_answered : (z : Side) (heeded : Bool) (c : OpenCall) (w : LeaseCall) (bytes : List ℕ) (l : LeaseState) → IsReadCall w → IsGiven (layout_in z) l.pair w.step bytes
      → lease_hearing (layout_in z) z.lockspace z.me heeded (open_at_step c w.work w.step) (Read bytes) w l
      ≡ read_told z heeded w.step (leader_given (layout_in z) (first_by l.pair w.step) w.step bytes) (read_given (layout_in z) (first_by l.pair w.step) w.step bytes)
      (turn_told (turn_heard (layout_in z) z.me.id w.step None (Read bytes)) l)
  -- one that is to be made once more, while it waits
  pub read_kept : (z : Side) (heeded : Bool) (c : OpenCall) (w : LeaseCall) (bytes : List ℕ) (pairs : List (Option PairBlock)) (l : LeaseState) → IsReadCall w
      → kept_heard (layout_in z) w.step (Read bytes) ≡ Some pairs → l.waiting ≡ Some w
      → lease_hearing (layout_in z) z.lockspace z.me heeded (open_at_step c w.work w.step) (Read bytes) w l
      ≡ after_kept pairs (turn_told (turn_heard (layout_in z) z.me.id w.step None (Read bytes)) l)
  pub write_answered : (z : Side) (heeded : Bool) (c : OpenCall) (w : LeaseCall) (l : LeaseState)
      → lease_hearing (layout_in z) z.lockspace z.me heeded (open_at_step c w.work w.step) Written w l ≡ write_told w l
  pub failed : (z : Side) (heeded : Bool) (c : OpenCall) (w : LeaseCall) (l : LeaseState)
      → lease_hearing (layout_in z) z.lockspace z.me heeded (open_at_step c w.work w.step) Failed w l ≡ after_failure l
