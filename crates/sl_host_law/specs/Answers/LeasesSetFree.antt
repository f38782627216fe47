-- After an answer to a lease's call its lease waits for nothing, so its work may go on by one more call.
use Rattle.sl_host_law.specs.Answers.AnswersFollow.{IsAnswerTo}
use Rattle.sl_host_law.specs.Answers.LeaseAnswers.{area_of}
use Rattle.sl_host_law.specs.Answers.LeaseDecisions.{MayWork}
use Rattle.sl_host_law.specs.Calls.MemberCalls.{follows_read}
use Rattle.sl_due.specs.Steps.{Step}
use Rattle.sl_host_state.specs.HeardInputs.{heard_answer, member_hearing}
use Rattle.sl_host_state.specs.KeptState.{HostState, LeaseState, MemberState}
use Rattle.sl_host_state.specs.MadeEffects.{is_lease_on, next_submitted}
use Rattle.sl_host_state.specs.declared.kept_parts.OpenCall.{OpenCall}
use Rattle.sl_host_law.specs.Questions.Jobs.{goes_on_in}
use Rattle.sl_sector.specs.declared.sector.Rec.TheVariants.{BlockIs, LeaderIs, PairIs, PairLeaderIs}
use Rattle.sl_trace.specs.Leases.{is_second}
use Rattle.sl_trace.specs.declared.effects.LeaseStep.{LeaseStep}
use Rattle.sl_trace.specs.declared.effects.Op.TheVariants.{ReadSectors, WriteRecord}
use Rattle.sl_trace.specs.declared.effects.Op.{Op}
use Rattle.sl_trace.specs.declared.effects.Purpose.TheVariants.{Lease}
use Rattle.sl_trace.specs.declared.effects.Work.{Work}
use Rattle.sl_trace.specs.declared.input.Answer.{Answer}
use Rattle.std.specs.Prelude.{Bool, IsTrue, None, Some, false, find, is_some, not, true, ℕ, ◌%◌, ◌&&◌, ◌-◌, ◌<◌, ◌||◌, ◌≡◌}

-- What a lease reads and writes.
abbrev pub is_lease_op : Op → Bool
is_lease_op (ReadSectors n) = true
is_lease_op (WriteRecord (BlockIs b)) = true
is_lease_op (WriteRecord (LeaderIs l)) = true
is_lease_op (WriteRecord (PairIs p)) = true
is_lease_op (WriteRecord (PairLeaderIs l)) = true
is_lease_op op = false

-- The call is on the area of the answered one; it is no read that is made once more, unless something is kept of the first; and phase 2
-- follows a read.
pub record GoesOn (h : HostState) (m : MemberState) (c : OpenCall) (work : Work) (step : LeaseStep) (offset : ℕ) (op : Op) : Type 0 where
  pub room : 0 < h.config.layout.area
  pub its : IsTrue (is_lease_op op)
  pub again : (l : LeaseState) → find (is_lease_on (area_of h c)) m.leases ≡ Some l → IsTrue (not (is_second step) || is_some l.pair.first && not l.pair.again)
  pub near : offset - offset % h.config.layout.area ≡ (area_of h c).base
  pub follows : (l : LeaseState) → find (is_lease_on (area_of h c)) m.leases ≡ Some l → IsTrue (follows_read (next_submitted h m.who.number c.path (Lease work step) offset op) l)

pub record LeasesSetFree : Type 0 where
  -- its lease is there, and waits for nothing
  pub lease : (number : ℕ) (c : OpenCall) (a : Answer) (h : HostState) (x : Step) (k : ℕ) (m : MemberState) (work : Work) (step : LeaseStep) → IsAnswerTo number c a h x k m → c.purpose ≡ Lease work step
      → 0 < h.config.layout.area → (l : LeaseState) × (find (is_lease_on (area_of h c)) (member_hearing h c a m).leases ≡ Some l) × (l.waiting ≡ None)
  -- so the work may go on
  pub work : (number : ℕ) (c : OpenCall) (a : Answer) (h : HostState) (x : Step) (k : ℕ) (m : MemberState) (work : Work) (step next : LeaseStep) (offset : ℕ) (op : Op) → IsAnswerTo number c a h x k m
      → m.refused ≡ false → c.purpose ≡ Lease work step → goes_on_in (heard_answer number a h) (member_hearing h c a m) work ≡ true
      → GoesOn (heard_answer number a h) (member_hearing h c a m) c work next offset op
      → MayWork (heard_answer number a h) m.who (area_of (heard_answer number a h) c) work next offset op
