-- The whole of an answer to a lease's call: where its work goes on, what its lease decides is done.
use Rattle.sl_host_law.specs.Answers.AnswersFollow.{IsAnswerTo}
use Rattle.sl_host_law.specs.Answers.LeaseDecisions.{MayCarryLease, carrying_lease}
use Rattle.sl_host_law.specs.Answers.Requests.{Follows}
use Rattle.sl_due.specs.Steps.{Step, with_input}
use Rattle.sl_host_state.specs.HeardInputs.{heard_answer, member_hearing}
use Rattle.sl_host_state.specs.KeptState.{HostState, MemberState}
use Rattle.sl_host_state.specs.declared.kept_parts.OpenCall.{OpenCall}
use Rattle.sl_trace.specs.declared.lease.Aim.{Aim}
use Rattle.sl_trace.specs.declared.lease.LeaseNext.{LeaseNext}
use Rattle.sl_host_law.specs.Questions.Answers.{next_in, spot_in}
use Rattle.sl_host_law.specs.Questions.Jobs.{aim_in, goes_on_in}
use Rattle.sl_trace.specs.declared.effects.LeaseStep.{LeaseStep}
use Rattle.sl_trace.specs.declared.effects.Purpose.TheVariants.{Lease}
use Rattle.sl_trace.specs.declared.effects.Spot.{Spot}
use Rattle.sl_trace.specs.declared.effects.Work.{Work}
use Rattle.sl_trace.specs.declared.input.Answer.{Answer}
use Rattle.sl_trace.specs.declared.input.Input.TheVariants.{Answer as Told}
use Rattle.std.specs.Prelude.{None, Some, false, true, ℕ, ◌≡◌}

-- The area of the call.
abbrev pub area_of : HostState → OpenCall → Spot
area_of h c = spot_in h.config.layout c

pub record LeaseAnswersFollow : Type 0 where
  -- its work goes on, to this end
  pub going : (number : ℕ) (c : OpenCall) (a : Answer) (h : HostState) (x : Step) (k : ℕ) (m : MemberState) (work : Work) (step : LeaseStep) (aim : Aim) (next : LeaseNext)
      → IsAnswerTo number c a h x k m → m.refused ≡ false → c.purpose ≡ Lease work step → goes_on_in (heard_answer number a h) (member_hearing h c a m) work ≡ true
      → aim_in (heard_answer number a h) work ≡ Some aim
      → next ≡ next_in (heard_answer number a h) (member_hearing h c a m) (with_input (Told number a) x) (area_of (heard_answer number a h) c) c aim step a
      → MayCarryLease (Told number a) (heard_answer number a h) (with_input (Told number a) x) (member_hearing h c a m) (area_of (heard_answer number a h) c) work next
      → Follows number a h x (carrying_lease (member_hearing h c a m) (area_of (heard_answer number a h) c) work next (heard_answer number a h))
  -- it does not, or to no end: the answer is heard, and that is all
  pub stopped : (number : ℕ) (c : OpenCall) (a : Answer) (h : HostState) (x : Step) (k : ℕ) (m : MemberState) (work : Work) (step : LeaseStep) → IsAnswerTo number c a h x k m → m.refused ≡ false
      → c.purpose ≡ Lease work step → goes_on_in (heard_answer number a h) (member_hearing h c a m) work ≡ false → Follows number a h x (heard_answer number a h)
  pub aimless : (number : ℕ) (c : OpenCall) (a : Answer) (h : HostState) (x : Step) (k : ℕ) (m : MemberState) (work : Work) (step : LeaseStep) → IsAnswerTo number c a h x k m → m.refused ≡ false
      → c.purpose ≡ Lease work step → goes_on_in (heard_answer number a h) (member_hearing h c a m) work ≡ true → aim_in (heard_answer number a h) work ≡ None
      → Follows number a h x (heard_answer number a h)
