-- What the whole of an answer asks is known: what the host is asked that is to hear it.
use Rattle.sl_host_answers.specs.WholeAnswers.{HeardKnown, IsHeard, LeaseHeard, MayAnswer, is_joining_purpose}
use Rattle.sl_host_law.proofs.SharedFacts.PlainLists.{at_some}
use Rattle.sl_host_law.proofs.Steps.InputsFollow.{joined_stays}
use Rattle.sl_host_law.specs.Replies.Answers.{IsOpen}
use Rattle.sl_host_law.specs.Steps.InputsFollow.{IsCallOf}
use Rattle.sl_host_state.specs.KeptState.{HostKept, MemberState, state_of}
use Rattle.sl_host_state.specs.declared.kept_parts.OpenCall.{OpenCall}
use Rattle.sl_host_step.proofs.StepsMayCome.{IsAtInput}
use Rattle.sl_host_step.proofs.KnownAnswers.{asked_in_time, in_time, instance, may_hear, placed, read_known, request_known, survey_known, work_known}
use Rattle.sl_host_step.proofs.KnownJoinings.{join_known}
use Rattle.sl_host_work.specs.TimedWork.{ArePlaced}
use Rattle.sl_member.specs.HostMembers.{member_with}
use Rattle.sl_words.proofs.Lists.{find_inside}
use Rattle.sl_step_law.proofs.AnswersAreKnown.{answers_are_known}
use Rattle.sl_trace.specs.declared.effects.LeaseStep.{LeaseStep}
use Rattle.sl_trace.specs.declared.effects.Purpose.TheVariants.{Joining, Lease, Leaving, Renewal, RequestRead, RequestWrite, SeeRequest, Survey, ValueRead, ValueWrite}
use Rattle.sl_trace.specs.declared.effects.Purpose.{Purpose}
use Rattle.sl_trace.specs.declared.effects.Work.{Work}
use Rattle.sl_trace.specs.declared.input.Answer.TheVariants.{Failed, Read, Written}
use Rattle.sl_trace.specs.declared.input.Answer.{Answer}
use Rattle.sl_trace.specs.declared.input.Input.TheVariants.{Answer as Told}
use Rattle.sl_host.specs.BookQuestions.{state_in}
use Rattle.sl_words.proofs.CaseLaws.{true_is_false}
use Rattle.std.proofs.Common.{refl, subst, sym}
use Rattle.std.proofs.lemmas.Bool.{eqb-true}
use Rattle.std.proofs.lemmas.Bool.Decides.{Decides-eqb}
use Rattle.std.specs.Prelude.{Contains, Some, false, true, ℕ, ◌==◌, ◌≡◌}

-- ---- by the purpose of the call

-- Whose call isn't a joining's, it is joined.
joined_by : (m : MemberState) (p : Purpose) → is_joining_purpose p ≡ false → IsCallOf m p → m.joined ≡ true
joined_by m (Joining j step) other is = absurd (true_is_false other)
joined_by m Renewal other is = is
joined_by m Survey other is = is
joined_by m (Leaving j) other is = is.0
joined_by m (Lease work step) other is = is
joined_by m (RequestRead j) other is = is
joined_by m (RequestWrite j owner) other is = is
joined_by m SeeRequest other is = is
joined_by m (ValueWrite j) other is = is
joined_by m (ValueRead j) other is = is

module _ (now number : ℕ) (answer : Answer) (k : HostKept) (c : OpenCall) (a : IsAtInput now (Told number answer) k) (opens : IsOpen (state_in k) number c) where
  found : Contains k.unanswered c × ((c.number == number) ≡ true)
  found = find_inside (λ (d : OpenCall). d.number == number) k.unanswered c opens

  -- ---- it may be answered

  -- Who joined isn't refused.
  stays : (m : MemberState) → member_with c.session k.members ≡ Some m → is_joining_purpose c.purpose ≡ false → m.refused ≡ false
  stays m there other =
      let f = find_inside (λ (z : MemberState). z.who.number == c.session) k.members m there in
      let mine : (c.session == m.who.number) ≡ true = (Decides-eqb c.session m.who.number).1 (sym (eqb-true m.who.number c.session f.1)) in
      let joined = joined_by m c.purpose other ((answers_are_known.theirs (state_of a.read k) a.step a.ready).own m c f.0 found.0 mine) in
      let place = at_some k.members m f.0 in joined_stays (state_of a.read k) a.step place.0 m a.ready.stands place.1 joined

  module _ (g : HostKept) (hears : IsHeard k number answer g) where
    are_placed : ArePlaced g
    are_placed n m there = placed now number answer k c a opens g (hears a.read) m (find_inside (λ (z : MemberState). z.who.number == n) g.members m there).0

    lease : (work : Work) (step : LeaseStep) → c.purpose ≡ Lease work step → (z : Answer) → answer ≡ z → LeaseHeard g c work step z
    lease work step for (Read bytes) is = read_known now number answer k c a opens g (hears a.read) work step for bytes is
    lease work step for Written is = (work_known now number answer k c a opens g (hears a.read) work step for, instance now number answer k c a opens work step for is)
    lease work step for Failed is = work_known now number answer k c a opens g (hears a.read) work step for

    heard : (p : Purpose) → c.purpose ≡ p → HeardKnown k g c answer p
    heard (Joining j step) for =
        λ m there. join_known now number answer k c a opens g (hears a.read) (survey_known now number answer k c a opens g (hears a.read)).timely j step for m there
    heard Renewal for = are_placed
    heard Survey for = survey_known now number answer k c a opens g (hears a.read)
    heard (Leaving j) for = are_placed
    heard (Lease work step) for = lease work step for answer refl
    heard (RequestRead j) for = request_known now number answer k c a opens g (hears a.read) j
    heard (RequestWrite j owner) for = tt
    heard SeeRequest for = tt
    heard (ValueWrite j) for = tt
    heard (ValueRead j) for = tt

  pub may_answer : MayAnswer k c answer
  may_answer =
      record {
        hears = may_hear now number answer k c a opens;
        timely = (in_time now number answer k c a opens, asked_in_time now number answer k c a opens);
        stays = stays;
        heard = λ g is. heard g (subst (λ n. IsHeard k n answer g) (eqb-true c.number number found.1) is) c.purpose refl;
      }
