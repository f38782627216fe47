-- The whole of an answer to a lease's call is followed by the state that it makes.
use Rattle.sl_host_law.proofs.Answers.AnswersFollow.{call, place, stands, theirs}
use Rattle.sl_host_law.proofs.Answers.LeasesAreCarried.{leases_are_carried}
use Rattle.sl_host_law.proofs.Answers.RequestsFollow.{follows}
use Rattle.sl_host_law.specs.Answers.AnswersFollow.{IsAnswerTo}
use Rattle.sl_host_law.specs.Answers.LeaseAnswers.{LeaseAnswersFollow, area_of}
use Rattle.sl_host_law.specs.Answers.LeaseDecisions.{MayCarryLease, carrying_lease}
use Rattle.sl_host_law.specs.Answers.Requests.{Follows}
use Rattle.sl_due.specs.DueAnswers.{after_answer_of}
use Rattle.sl_due.specs.CarriedLease.{after_lease_answer, carry_lease}
use Rattle.sl_due.specs.Steps.{Step, with_input, with_some}
use Rattle.sl_host_state.specs.HeardInputs.{heard_answer, member_hearing}
use Rattle.sl_host_state.specs.KeptState.{HostState, MemberState}
use Rattle.sl_host_state.specs.HostStands.{Stands}
use Rattle.sl_host_state.specs.declared.kept_parts.OpenCall.{OpenCall}
use Rattle.sl_trace.specs.Leases.{lease_step}
use Rattle.sl_trace.specs.declared.lease.Aim.{Aim}
use Rattle.sl_trace.specs.declared.lease.LeaseNext.{LeaseNext}
use Rattle.sl_host_law.proofs.Questions.AnswersDecide.{answers_decide}
use Rattle.sl_host_law.specs.Questions.Answers.{next_in}
use Rattle.sl_host_law.specs.Questions.Jobs.{aim_in, goes_on_in}
use Rattle.sl_trace.specs.declared.effects.LeaseStep.{LeaseStep}
use Rattle.sl_trace.specs.declared.effects.Purpose.TheVariants.{Lease}
use Rattle.sl_trace.specs.declared.effects.Work.{Work}
use Rattle.sl_trace.specs.declared.input.Answer.{Answer}
use Rattle.sl_trace.specs.declared.input.Input.TheVariants.{Answer as Told}
use Rattle.std.proofs.Common.{ap, subst, sym}
use Rattle.std.specs.Prelude.{Bool, None, Option, Some, false, true, ℕ, ◌≡◌}

module _ (number : ℕ) (c : OpenCall) (a : Answer) (h : HostState) (x : Step) (k : ℕ) (m : MemberState) (work : Work) (step : LeaseStep) (to : IsAnswerTo number c a h x k m) (not_refused : m.refused ≡ false) (is : c.purpose ≡ Lease work step) where
  after : Stands (Told number a) (heard_answer number a h) (with_input (Told number a) x)
  after = stands number c a h x k m to not_refused

  -- What is done, by whether the work goes on and to what end.
  abbrev done_by : Bool → Option Aim → Step
  done_by goes aim =
      elim goes as (λ z. Step) [
        | false ↦ with_input (Told number a) x
        | true ↦ with_some aim (λ q.
            carry_lease m.who (area_of (heard_answer number a h) c) work
            (next_in (heard_answer number a h) (member_hearing h c a m) (with_input (Told number a) x) (area_of (heard_answer number a h) c) c q step a))
            (with_input (Told number a) x)
      ]

  due : after_lease_answer m.who work step (theirs number c a h x k m to not_refused).0 a (with_input (Told number a) x)
      ≡ done_by (goes_on_in (heard_answer number a h) (member_hearing h c a m) work) (aim_in (heard_answer number a h) work)
  due =
      (answers_decide (Told number a) (heard_answer number a h) (with_input (Told number a) x) (place number c a h x k m to not_refused).0 (member_hearing h c a m) (theirs number c a h x k m to not_refused).0 c a
      (call number c a h x k m to not_refused)).lease work step (ap lease_step is)

  whole : (new : HostState) → Stands (Told number a) new (done_by (goes_on_in (heard_answer number a h) (member_hearing h c a m) work) (aim_in (heard_answer number a h) work)) → Follows number a h x new
  unfolding after_answer_of
  whole new done = follows number c a h x k m to not_refused (Lease work step) is new (subst (λ (y : Step). Stands (Told number a) new y) (sym due) done)

  stopped : goes_on_in (heard_answer number a h) (member_hearing h c a m) work ≡ false → Follows number a h x (heard_answer number a h)
  stopped stops = whole (heard_answer number a h) (subst (λ b. Stands (Told number a) (heard_answer number a h) (done_by b (aim_in (heard_answer number a h) work))) (sym stops) after)

  aimless : goes_on_in (heard_answer number a h) (member_hearing h c a m) work ≡ true → aim_in (heard_answer number a h) work ≡ None → Follows number a h x (heard_answer number a h)
  aimless goes none =
      whole (heard_answer number a h)
      (subst (λ b. Stands (Told number a) (heard_answer number a h) (done_by b (aim_in (heard_answer number a h) work))) (sym goes)
      (subst (λ o. Stands (Told number a) (heard_answer number a h) (done_by true o)) (sym none) after))

  going : (aim : Aim) (next : LeaseNext) → goes_on_in (heard_answer number a h) (member_hearing h c a m) work ≡ true → aim_in (heard_answer number a h) work ≡ Some aim
      → next ≡ next_in (heard_answer number a h) (member_hearing h c a m) (with_input (Told number a) x) (area_of (heard_answer number a h) c) c aim step a
      → MayCarryLease (Told number a) (heard_answer number a h) (with_input (Told number a) x) (member_hearing h c a m) (area_of (heard_answer number a h) c) work next
      → Follows number a h x (carrying_lease (member_hearing h c a m) (area_of (heard_answer number a h) c) work next (heard_answer number a h))
  going aim next goes aims decided may =
      let new : HostState = carrying_lease (member_hearing h c a m) (area_of (heard_answer number a h) c) work next (heard_answer number a h) in
      whole new
      (subst (λ b. Stands (Told number a) new (done_by b (aim_in (heard_answer number a h) work))) (sym goes)
      (subst (λ o. Stands (Told number a) new (done_by true o)) (sym aims)
      (subst (λ n. Stands (Told number a) new (carry_lease m.who (area_of (heard_answer number a h) c) work n (with_input (Told number a) x))) decided
      (leases_are_carried (Told number a) (heard_answer number a h) (with_input (Told number a) x) (place number c a h x k m to not_refused).0 (member_hearing h c a m) (area_of (heard_answer number a h) c) work next
      (record { stands = after; there = (place number c a h x k m to not_refused).1 }) may))))

pub lease_answers_follow : LeaseAnswersFollow
lease_answers_follow =
    record {
      going = λ number c a h x k m work step aim next to not_refused is goes aims decided may. going number c a h x k m work step to not_refused is aim next goes aims decided may;
      stopped = λ number c a h x k m work step to not_refused is stops. stopped number c a h x k m work step to not_refused is stops;
      aimless = λ number c a h x k m work step to not_refused is goes none. aimless number c a h x k m work step to not_refused is goes none;
    }
