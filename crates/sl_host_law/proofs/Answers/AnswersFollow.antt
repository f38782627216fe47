-- The whole of an answer to a renewal and to a free is followed by the state that it makes.
use Rattle.sl_host_law.proofs.Answers.AnswersSetFree.{answers_set_free}
use Rattle.sl_host_law.proofs.Answers.DecisionsAreCarried.{decisions_are_carried}
use Rattle.sl_host_law.specs.Answers.AnswersFollow.{AnswersFollow, IsAnswerTo}
use Rattle.sl_host_law.specs.Answers.CarriedDecisions.{MayCarry, MaySurvey, carrying, connecting}
use Rattle.sl_due.specs.DueAnswers.{after_answer, after_answer_of}
use Rattle.sl_due.specs.Steps.{Step, seen, with_input}
use Rattle.sl_host_law.proofs.SharedFacts.PlainLists.{any_as, any_mapped, at_some}
use Rattle.sl_host_state.specs.HeardInputs.{heard_answer, hearing, job_hearing, member_hearing, renewing_hearing, still_busy}
use Rattle.sl_host_state.specs.KeptState.{HostState, MemberState}
use Rattle.sl_host_state.specs.MadeEffects.{is_ended_by_move}
use Rattle.sl_host_state.specs.HostStands.{Stands, is_kept_of, kept_call}
use Rattle.sl_host_law.specs.Calls.MemberCalls.{is_idle_job}
use Rattle.sl_host_state.specs.declared.kept_parts.JobState.{JobState}
use Rattle.sl_host_state.specs.declared.kept_parts.OpenCall.{OpenCall}
use Rattle.sl_host_state.specs.declared.kept_parts.WaitingCall.{WaitingCall}
use Rattle.sl_host_law.specs.Replies.Answers.{IsOpen}
use Rattle.sl_words.proofs.Lists.{find_inside, got_inside, kept}
use Rattle.sl_host_law.proofs.Questions.AnswersAreTheirs.{answers_are_theirs}
use Rattle.sl_host_law.proofs.Questions.AnswersDecide.{answers_decide}
use Rattle.sl_host_law.proofs.Questions.JobsAnswer.{jobs_answer}
use Rattle.sl_host_law.specs.Questions.Answers.{IsCallOf}
use Rattle.sl_host_law.specs.Questions.Jobs.{running_in}
use Rattle.sl_host_law.proofs.Replies.Answers.AnswersAreHeard.{answers_are_heard}
use Rattle.sl_host_law.proofs.Replies.PlainNumbers.{same_number}
use Rattle.sl_host_law.specs.Replies.Moves.{EndsBegun}
use Rattle.sl_host_law.specs.Replies.RepliesAreTaken.{MayReply}
use Rattle.sl_time.specs.Times.{fail}
use Rattle.sl_trace.specs.DeltaDecisions.{next_after_free, next_after_renewal}
use Rattle.sl_trace.specs.Sessions.{is_delta_purpose, is_present}
use Rattle.sl_trace.specs.Traces.{Submitted, is_before_input, is_running, job_of, submitted}
use Rattle.sl_trace.specs.declared.effects.Move.TheVariants.{Renew, Unregister}
use Rattle.sl_trace.specs.declared.effects.Purpose.TheVariants.{Leaving, Renewal}
use Rattle.sl_trace.specs.declared.effects.Purpose.{Purpose}
use Rattle.sl_trace.specs.declared.input.Answer.TheVariants.{Failed, Read, Written}
use Rattle.sl_trace.specs.declared.input.Answer.{Answer}
use Rattle.sl_trace.specs.declared.input.Input.TheVariants.{Answer as Told}
use Rattle.sl_trace.specs.declared.reply.Reply.TheVariants.{Done, IoFault}
use Rattle.sl_trace.specs.declared.reply.Reply.{Reply}
use Rattle.std.proofs.Common.{ap, inl, refl, subst, sym, ◌∙◌}
use Rattle.std.specs.Prelude.{Bool, Contains, None, Option, Some, cond, false, is_some, not, slice_get, true, ℕ, ◌&&◌, ◌+◌, ◌==◌, ◌≡◌}

-- An answer ends no job.
heard_jobs : (number : ℕ) (c : OpenCall) (a : Answer) (h : HostState) → IsOpen h number c → (n : ℕ) → running_in (heard_answer number a h) n ≡ running_in h n
heard_jobs number c a h is_open n =
    ap (λ o. running_in (elim o as (λ z. HostState) [ None ↦ h | Some d ↦ hearing d a h ]) n) is_open
    ∙ any_mapped (λ (j : JobState). j.number == n) (job_hearing c.number) h.jobs
    ∙ any_as (λ (j : JobState). (job_hearing c.number j).number == n) (λ j. j.number == n) h.jobs (λ j. ap (λ z. z == n) (number_stays j)) where
      number_stays : (z : JobState) → (job_hearing c.number z).number ≡ z.number
      number_stays z = by z.waits where
        by_number : (b : Bool) → (cond b (record z { waits = None }) z).number ≡ z.number
        by_number true = refl
        by_number false = refl

        by : (o : Option WaitingCall) → (elim o as (λ q. JobState) [ None ↦ z | Some w ↦ cond (w.number == c.number) (record z { waits = None }) z ]).number ≡ z.number
        by None = refl
        by (Some w) = by_number (w.number == c.number)

module _ (number : ℕ) (c : OpenCall) (a : Answer) (h : HostState) (x : Step) (k : ℕ) (m : MemberState) (to : IsAnswerTo number c a h x k m) (not_refused : m.refused ≡ false) where
  abbrev after : HostState
  after = heard_answer number a h

  abbrev told : Step
  told = with_input (Told number a) x

  abbrev hears : MemberState
  hears = member_hearing h c a m

  pub stands : Stands (Told number a) (heard_answer number a h) (with_input (Told number a) x)
  stands = answers_are_heard.heard number c a h x to.stands to.is_open to.fits to.at

  pub place : (n : ℕ) × (slice_get (heard_answer number a h).members n ≡ Some (member_hearing h c a m))
  place = answers_set_free.member number c a h x k m to not_refused

  numbered : c.number ≡ number
  numbered = same_number c.number number (find_inside (λ (d : OpenCall). d.number == number) h.unanswered c to.is_open).1

  pub theirs : (d : Submitted) × Contains (submitted (seen (with_input (Told number a) x))) d × (kept_call d ≡ c)
      × (after_answer (is_present (seen x)) number a (with_input (Told number a) x) ≡ after_answer_of m.who d c.purpose a (with_input (Told number a) x))
  theirs = answers_are_theirs.member number c a h x k m to.stands to.is_open to.at to.there (same_number c.session m.who.number to.its)

  pub call : IsCallOf (Told number a) (heard_answer number a h) (with_input (Told number a) x) place.0 (member_hearing h c a m) theirs.0 c
  call = record { at = record { stands = stands; there = place.1 }; inside = theirs.1; kept = theirs.2 }

  pub idle : is_delta_purpose c.purpose ≡ true → (member_hearing h c a m).known.busy ≡ false
  idle delta = ap (λ n. still_busy n h m) numbered ∙ answers_set_free.idle number c a h x k m to delta

  pub idle_job : (j : ℕ) → is_kept_of j c ≡ true → running_in (heard_answer number a h) j ≡ true → is_idle_job (heard_answer number a h) j ≡ true
  idle_job j of_c goes = answers_set_free.job number c a h x k m j to of_c (kept_running j goes) where
    kept_running : (n : ℕ) → running_in (heard_answer number a h) n ≡ true → running_in h n ≡ true
    kept_running n goes_on = sym (heard_jobs number c a h to.is_open n) ∙ goes_on

  -- ---- a renewal

  may_survey : is_delta_purpose c.purpose ≡ true → MaySurvey (connecting m.who c.reading (heard_answer number a h)) m.who
  may_survey delta =
      let there = at_some (connecting m.who c.reading after).members hears
      (kept (λ (z : MemberState). not (is_ended_by_move (Renew m.who.lockspace (c.reading + fail after.config.timing)) z)) after.members hears refl (got_inside after.members place.0 hears place.1)) in
      record {
        place = there.0;
        member = hears;
        there = there.1;
        its = refl;
        fits = record { later = refl; job = refl; turn = ap (λ b. not (true && b)) (idle delta); generation = refl; value = refl; lease = refl; again = refl };
      }

  may_renew : is_delta_purpose c.purpose ≡ true → MayCarry (Told number a) (heard_answer number a h) (with_input (Told number a) x) m.who (next_after_renewal (is_some (renewing_hearing h c a m).recovery) c.reading a)
  may_renew delta = by (is_some (renewing_hearing h c a m).recovery) a where
    by : (recovering : Bool) (z : Answer) → MayCarry (Told number a) (heard_answer number a h) (with_input (Told number a) x) m.who (next_after_renewal recovering c.reading z)
    by true Written = tt
    by false Written = may_survey delta
    by recovering (Read bytes) = tt
    by recovering Failed = tt

  renewal : c.purpose ≡ Renewal
      → Stands (Told number a) (carrying m.who (next_after_renewal (is_some (renewing_hearing h c a m).recovery) c.reading a) (heard_answer number a h))
      (after_answer (is_present (seen x)) number a (with_input (Told number a) x))
  unfolding after_answer_of
  renewal is =
      subst (λ (y : Step). Stands (Told number a) (carrying m.who (next_after_renewal (is_some (renewing_hearing h c a m).recovery) c.reading a) (heard_answer number a h)) y)
      (sym (theirs.3 ∙ ap (λ (p : Purpose). after_answer_of m.who theirs.0 p a (with_input (Told number a) x)) is ∙ (answers_decide (Told number a) (heard_answer number a h) (with_input (Told number a) x) place.0 (member_hearing h c a m) theirs.0 c a call).renewal))
      (decisions_are_carried (Told number a) (heard_answer number a h) (with_input (Told number a) x) m.who (next_after_renewal (is_some (renewing_hearing h c a m).recovery) c.reading a) stands (may_renew (ap is_delta_purpose is)))

  -- ---- a free

  may_end : (j : ℕ) → c.purpose ≡ Leaving j → EndsBegun (Unregister m.who.lockspace) (heard_answer number a h)
      → MayCarry (Told number a) (heard_answer number a h) (with_input (Told number a) x) m.who (next_after_free j c.number a)
  may_end j is ends = by a where
    runs : is_running (seen (with_input (Told number a) x)) j ≡ running_in (heard_answer number a h) j
    runs = (jobs_answer (Told number a) (heard_answer number a h) (with_input (Told number a) x) stands).called theirs.0 j theirs.1 (ap (λ (z : OpenCall). job_of z.purpose) theirs.2 ∙ ap job_of is)

    may : (r : Reply) → is_before_input r ≡ false → running_in (heard_answer number a h) j ≡ true → MayReply (Told number a) (heard_answer number a h) (with_input (Told number a) x) j r
    may r late goes = record { runs = goes; heed = inl late; line = tt }

    by : (z : Answer) → MayCarry (Told number a) (heard_answer number a h) (with_input (Told number a) x) m.who (next_after_free j c.number z)
    by Written = (ends, runs, λ goes. may Done refl goes)
    by Failed = (ends, runs, λ goes. may (IoFault c.number) refl goes)
    by (Read bytes) = tt

  free : (j : ℕ) → c.purpose ≡ Leaving j → EndsBegun (Unregister m.who.lockspace) (heard_answer number a h)
      → Stands (Told number a) (carrying m.who (next_after_free j c.number a) (heard_answer number a h)) (after_answer (is_present (seen x)) number a (with_input (Told number a) x))
  unfolding after_answer_of
  free j is ends =
      subst (λ (y : Step). Stands (Told number a) (carrying m.who (next_after_free j c.number a) (heard_answer number a h)) y)
      (sym (theirs.3 ∙ ap (λ (p : Purpose). after_answer_of m.who theirs.0 p a (with_input (Told number a) x)) is ∙ (answers_decide (Told number a) (heard_answer number a h) (with_input (Told number a) x) place.0 (member_hearing h c a m) theirs.0 c a call).free j))
      (decisions_are_carried (Told number a) (heard_answer number a h) (with_input (Told number a) x) m.who (next_after_free j c.number a) stands (may_end j is ends))

pub answers_follow : AnswersFollow
answers_follow =
    record {
      renewal = λ number c a h x k m to is not_refused. renewal number c a h x k m to not_refused is;
      free = λ number c a h x k m j to is not_refused ends. free number c a h x k m to not_refused j is ends;
    }
