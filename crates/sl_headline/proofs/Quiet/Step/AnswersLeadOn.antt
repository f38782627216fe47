-- The answer of a job's call leads on.
use Rattle.sl_due.specs.Due.{after_input, before_input, due, due_step}
use Rattle.sl_due.specs.DueAnswers.{after_answer, after_answer_of}
use Rattle.sl_due.specs.DueInputs.{take_input}
use Rattle.sl_due.specs.CarriedLease.{after_lease_answer, carry_lease, next_of_lease}
use Rattle.sl_due.specs.DueWake.{finish}
use Rattle.sl_due.specs.Steps.{Step, begin_step, seen, when, with_some}
use Rattle.sl_trace.specs.Jobs.{aim_of}
use Rattle.sl_trace.specs.Leases.{spot_of_call}
use Rattle.sl_trace.specs.declared.lease.Aim.{Aim}
use Rattle.sl_headline.proofs.Quiet.Step.BeforeInput.{bare_heard, early}
use Rattle.sl_headline.proofs.Quiet.Step.FinishKeeps.{KeepsLeases, finish_keeps}
use Rattle.sl_headline.specs.Quiet.Step.AnswersLeadOn.{Answers, AnswersLeadOn, DoesAs, IsBare, WasThere, heard, led_on}
use Rattle.sl_trace.specs.declared.session.Session.{Session}
use Rattle.sl_trace.specs.Sessions.{is_present, session_numbered}
use Rattle.sl_trace.specs.Traces.{Setting, Submitted, Trace, is_running, mark, new_call, submitted}
use Rattle.sl_trace.specs.declared.effects.LeaseStep.{LeaseStep}
use Rattle.sl_trace.specs.declared.effects.Work.TheVariants.{ForJob}
use Rattle.sl_trace.specs.declared.input.Answer.{Answer}
use Rattle.sl_trace.specs.declared.input.Input.TheVariants.{Answer as Told}
use Rattle.std.proofs.Common.{ap, refl, subst, sym, ◌∙◌}
use Rattle.std.specs.Prelude.{Bool, Some, false, fold, length, true, ℕ, ◌∷◌, ◌≡◌}

lease_leads : (y : Step) (s : Session) (m : Submitted) (j : ℕ) (step : LeaseStep) (aim : Aim) (a : Answer) → is_running (seen y) j ≡ true → aim_of y.setting (seen y) (ForJob j) ≡ Some aim
    → after_lease_answer s (ForJob j) step m a y ≡ led_on y s m j step aim a
unfolding after_lease_answer
lease_leads y s m j step aim a runs is =
    let f : Aim → Step → Step = λ aim z. carry_lease s (spot_of_call z.setting.layout m) (ForJob j) (next_of_lease z.setting (seen z) s (spot_of_call z.setting.layout m) aim m step a) z in
    ap (λ t. elim t as (λ x. Step) [ false ↦ y | true ↦ with_some (aim_of y.setting (seen y) (ForJob j)) f y ]) runs
    ∙ ap (λ o. with_some o f y) is

lease_stops : (y : Step) (s : Session) (m : Submitted) (j : ℕ) (step : LeaseStep) (a : Answer) → is_running (seen y) j ≡ false → after_lease_answer s (ForJob j) step m a y ≡ y
unfolding after_lease_answer
lease_stops y s m j step a ended =
    let f : Aim → Step → Step = λ aim z. carry_lease s (spot_of_call z.setting.layout m) (ForJob j) (next_of_lease z.setting (seen z) s (spot_of_call z.setting.layout m) aim m step a) z in
    ap (λ t. elim t as (λ x. Step) [ false ↦ y | true ↦ with_some (aim_of y.setting (seen y) (ForJob j)) f y ]) ended

-- The answer is that of the lease.
of_lease : (st : Setting) (past : Trace) (now n : ℕ) (a : Answer) (s : Session) (m : Submitted) (j : ℕ) (step : LeaseStep) → Answers (heard st past now n a) (WasThere st past now) n s m j step
    → after_answer (is_present (seen (before_input (begin_step st past now)))) n a (heard st past now n a) ≡ after_lease_answer s (ForJob j) step m a (heard st past now n a)
unfolding after_answer after_answer_of
of_lease st past now n a s m j step h =
    let y : Step = heard st past now n a in
    let was : Session → Bool = is_present (seen (before_input (begin_step st past now))) in
    ap (λ o. with_some o (λ m. with_some (session_numbered y.setting (seen y) m.call.session) (λ s. when (was s) (after_answer_of s m m.call.purpose a))) y) h.call
    ∙ ap (λ o. with_some o (λ s. when (was s) (after_answer_of s m m.call.purpose a)) y) h.session
    ∙ ap (λ t. when t (after_answer_of s m m.call.purpose a) y) h.present
    ∙ ap (λ p. after_answer_of s m p a y) h.purpose

due_finishes : (st : Setting) (past : Trace) (now n : ℕ) (a : Answer)
    → due_step st past now (Told n a) ≡ finish (after_answer (is_present (seen (before_input (begin_step st past now)))) n a (heard st past now n a))
unfolding due_step after_input take_input
due_finishes st past now n a = refl

does_as : (x y : Step) → KeepsLeases x y → DoesAs y.effects x
does_as x y k = record { calls = k.calls; replies = k.replies; grants = k.grants }

due_does : (st : Setting) (past : Trace) (now n : ℕ) (a : Answer) (x : Step) → after_answer (is_present (seen (before_input (begin_step st past now)))) n a (heard st past now n a) ≡ x
    → DoesAs (due st past now (Told n a)) x
unfolding due
due_does st past now n a x is = subst (λ z. DoesAs z.effects x) (sym (due_finishes st past now n a ∙ ap (λ z. finish z) is)) (does_as x (finish x) (finish_keeps x))

marked : (st : Setting) (past : Trace) (now n : ℕ) (a : Answer) → submitted (seen (heard st past now n a))
    ≡ mark past (record { reading = now; input = Told n a; effects = (heard st past now n a).effects }) (Told n a) (submitted past)
marked st past now n a =
    let y : Step = heard st past now n a in
    let h : IsBare st past now y = bare_heard st past now n a in
    ap (λ cs. fold (λ ms c. new_call (length y.past) y.reading c ∷ ms) (mark y.past (record { reading = y.reading; input = Told n a; effects = y.effects }) (Told n a) (submitted y.past)) cs) h.calls
    ∙ ap (λ es. mark es (record { reading = y.reading; input = Told n a; effects = y.effects }) (Told n a) (submitted es)) h.before
    ∙ ap (λ r. mark past (record { reading = r; input = Told n a; effects = y.effects }) (Told n a) (submitted past)) h.reading

pub answers_lead_on : AnswersLeadOn
answers_lead_on = record {
  bare = bare_heard;
  marked = marked;
  early = early;
  stops = λ st past now n a s m j step h ended.
      due_does st past now n a (heard st past now n a) (of_lease st past now n a s m j step h ∙ lease_stops (heard st past now n a) s m j step a ended);
  leads = λ st past now n a s m j step aim h r.
      due_does st past now n a (led_on (heard st past now n a) s m j step aim a) (of_lease st past now n a s m j step h ∙ lease_leads (heard st past now n a) s m j step aim a r.runs r.aim_is);
}
