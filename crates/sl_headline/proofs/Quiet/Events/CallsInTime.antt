-- The job of an acquire on its course waits for its call, which isn't overdue.
use Rattle.sl_due.specs.Due.{IsHostTrace}
use Rattle.sl_due_law.proofs.Causes.NamesBefore.{session_then}
use Rattle.sl_due_facts.proofs.Jobs.JobsAreNumbered.{command_read, command_stays}
use Rattle.sl_due_law.proofs.LawfulTraces.TracesHold.{traces_hold}
use Rattle.sl_run.specs.Caused.{Answering, the_session}
use Rattle.sl_run.specs.Lawful.{IsSetting}
use Rattle.sl_trace.specs.Jobs.{command_of}
use Rattle.sl_words.proofs.Lists.{contains_cases, find_fails, find_inside, got_inside, kept, kept_inside}
use Rattle.sl_words.proofs.Options.{none_is, then_value}
use Rattle.sl_headline.proofs.Quiet.Events.Calls.{CallThere, call_there, of_the_job}
use Rattle.sl_headline.proofs.Quiet.Events.OtherEntries.{has_answer}
use Rattle.sl_headline.specs.Quiet.Events.CarriedStages.{Asked, DaemonOnCourse, IsAskedOf, Stage, stages_before}
use Rattle.sl_headline.specs.Quiet.NoDenial.NothingIsCaused.{IsTimely}
use Rattle.sl_trace.specs.Sessions.{is_active, is_joined, leaving_job, recovery_of, sessions}
use Rattle.sl_trace.specs.declared.session.Session.{Session}
use Rattle.sl_trace.specs.Traces.{Job, Setting, Submitted, Trace, is_of_job, job_numbered, jobs, outstanding, submitted, waiting_call}
use Rattle.sl_trace.specs.declared.command.Command.TheVariants.{Acquire}
use Rattle.sl_trace.specs.declared.effects.Entry.{Entry}
use Rattle.sl_words.proofs.CaseLaws.{one_value, true_is_false}
use Rattle.sl_words.proofs.WordLaws.{and_true}
use Rattle.std.proofs.Common.{ap, inl, inr, refl, subst, sym, ◌∙◌}
use Rattle.std.proofs.lemmas.Bool.{eqb-true}
use Rattle.std.specs.Prelude.{Contains, IsTrue, None, Option, Some, is_none, true, ◌&&◌, ◌+◌, ◌<◌, ◌==◌, ◌∷◌, ◌≡◌, ◌⊎◌}

pub joined_there : (st : Setting) (es : Trace) (s : Session) → is_active st es s ≡ true → is_joined es s ≡ true
joined_there st es s is = (and_true (is_joined es s) (is_none (recovery_of st es s)) (and_true (is_joined es s && is_none (recovery_of st es s)) (is_none (leaving_job st es s)) is).0).0

-- The job with an entry.
pub record JobThere (st : Setting) (past : Trace) (e : Entry) (q : Asked) (call : Submitted) : Type 0 where
  pub job : Job
  pub found : job_numbered st (e ∷ past) q.job ≡ Some job
  pub timely : IsTimely (record { setting = st; past = past; entry = e; job = job }) call

pub job_there : (st : Setting) (past : Trace) (e : Entry) (q : Asked) (stage : Stage) → IsSetting st → IsHostTrace st past → IsAskedOf st q → (c : DaemonOnCourse st past q stage)
    → e.reading < c.call.reading + st.timing.io → IsTrue (is_active st (e ∷ past) q.session) → JobThere st past e q c.call
job_there st past e q stage setting host asked c early active =
    record { job = its.0; found = its.1; timely = record { waits = ap (λ n. waiting_call past n) number ∙ waits; timely = early; active = λ z is. subst (λ y. IsTrue (is_active st (e ∷ past) y)) (one_value q.session z (the_session x) the_one is) active } } where
      d : Submitted
      d = c.call

      there : CallThere st past q d
      there = call_there st past q stage c

      its : (k : Job) × (job_numbered st (e ∷ past) q.job ≡ Some k) × (command_of k ≡ Some (Acquire q.resource q.shared q.process q.persistent))
      its =
          then_value command_of (job_numbered st (e ∷ past) q.job) (Acquire q.resource q.shared q.process q.persistent)
          (command_stays st e past q.job (Acquire q.resource q.shared q.process q.persistent) c.command)

      x : Answering
      x = record { setting = st; past = past; entry = e; job = its.0 }

      number : (its.0).number ≡ q.job
      number = eqb-true (its.0).number q.job (find_inside (λ (k : Job). k.number == q.job) (jobs st (e ∷ past)) its.0 its.1).1

      mine_before : (m : Submitted) → Contains (submitted past) m → is_of_job q.job m ≡ true → m.answer ≡ None → m ≡ d
      mine_before m inside mine waits = by (contains_cases d c.older m (subst (λ ms. Contains ms m) c.calls (kept (is_of_job q.job) (submitted past) m mine inside))) where
        by : (d ≡ m) ⊎ Contains c.older m → m ≡ d
        by (inl same) = sym same
        by (inr old) = absurd (has_answer q (stages_before stage) c.older m c.done old waits)

      waits : waiting_call past q.job ≡ Some d
      waits = by (waiting_call past q.job) refl where
        d_open : Contains (outstanding past) d
        d_open = kept (λ (m : Submitted). is_none m.answer) (submitted past) d (ap (λ o. is_none o) c.waits) there.there

        by : (o : Option Submitted) → waiting_call past q.job ≡ o → o ≡ Some d
        by None none = absurd (true_is_false (sym (of_the_job q stage d c.is) ∙ find_fails (is_of_job q.job) (outstanding past) d none d_open))
        by (Some m) found =
            let inside = find_inside (is_of_job q.job) (outstanding past) m found in
            let opens = kept_inside (λ (y : Submitted). is_none y.answer) (submitted past) m inside.0 in
            ap (λ y. Some y) (mine_before m opens.0 inside.1 (none_is m.answer opens.1))

      the_one : the_session x ≡ Some q.session
      the_one =
          session_then x (Acquire q.resource q.shared q.process q.persistent) q.session (traces_hold st past setting host).whole (got_inside (sessions st past) q.session.number q.session c.session)
          (joined_there st past q.session c.active) (command_read its.0 (Acquire q.resource q.shared q.process q.persistent) its.2) (ap (λ n. Some n) (sym asked.lockspace))
