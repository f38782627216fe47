-- The job that is answered, and the call whose answer does it, at each later step of the entry.
use Rattle.sl_words.proofs.CaseLaws.{false_is_true}
use Rattle.sl_trace.specs.declared.effects.Entry.{Entry}
use Rattle.sl_due_facts.specs.Acts.Acts.{Hears}
use Rattle.sl_due_law.specs.Causes.CausedSoFar.{IsCarried, IsLater, answering}
use Rattle.sl_due.specs.Steps.{Step, seen}
use Rattle.sl_due_leases.proofs.Holdings.LeaseCallers.{heard_answered, heard_call}
use Rattle.sl_due_leases.specs.Holdings.Moments.{Known}
use Rattle.sl_due_facts.proofs.Jobs.JobFactsGrow.{contains_right}
use Rattle.sl_due_facts.proofs.Jobs.JobsAreNumbered.{command_read}
use Rattle.sl_run.specs.Caused.{AnswersCall, Answering, WithSpot, job_command}
use Rattle.sl_run.specs.LawForms.{IsAnsweredAt}
use Rattle.sl_trace.specs.Jobs.{command_numbered, command_of, resource_named}
use Rattle.sl_trace.specs.Leases.{spot_of}
use Rattle.sl_words.proofs.Lists.{find_inside}
use Rattle.sl_words.proofs.Numbers.{number_itself}
use Rattle.sl_trace.specs.declared.session.Session.{Session}
use Rattle.sl_trace.specs.Traces.{Job, Replied, Setting, Submitted, Trace, is_running, job_numbered, job_of, jobs, no_effects, reply_in, reply_to, submitted}
use Rattle.sl_trace.specs.declared.command.Command.{Command}
use Rattle.sl_trace.specs.declared.command.ResourceArg.{ResourceArg}
use Rattle.sl_trace.specs.declared.effects.Spot.{Spot}
use Rattle.sl_trace.specs.declared.input.Answer.{Answer}
use Rattle.sl_trace.specs.declared.input.Input.TheVariants.{Answer as Told, Wake}
use Rattle.sl_trace.specs.declared.input.Input.{Input}
use Rattle.sl_words.specs.Words.{some_is}
use Rattle.std.proofs.Common.{ap, refl, subst, sym, ◌∙◌}
use Rattle.std.proofs.lemmas.Bool.{eqb-true}
use Rattle.std.specs.Prelude.{Contains, Err, IsSomeAnd, List, None, Ok, Option, Result, Some, find, is_none, length, option_and_then, true, ℕ, ◌==◌, ◌∷◌, ◌≡◌}

-- ---- the job

-- The jobs of a trace ask nothing of its newest effects.
abbrev jobs_at : Setting → Trace → ℕ → Input → List Job
jobs_at st past now i = jobs st (record { reading = now; input = i; effects = no_effects } ∷ past)

same_jobs : (x z : Step) → IsLater x z → IsCarried x z → jobs x.setting (seen x) ≡ jobs z.setting (seen z)
same_jobs x z later carried =
    sym (ap (λ st. jobs_at st z.past z.reading z.input) later.setting
    ∙ (ap (λ t. jobs_at x.setting t z.reading z.input) later.before
    ∙ (ap (λ n. jobs_at x.setting x.past n z.input) later.reading ∙ ap (λ i. jobs_at x.setting x.past x.reading i) carried.input)))

pub same_job : (x z : Step) (n : ℕ) (j : Job) → IsLater x z → IsCarried x z → job_numbered z.setting (seen z) n ≡ Some j → job_numbered x.setting (seen x) n ≡ Some j
same_job x z n j later carried is = ap (λ js. find (λ (k : Job). k.number == n) js) (same_jobs x z later carried) ∙ is

pub number_is : (st : Setting) (t : Trace) (n : ℕ) (j : Job) → job_numbered st t n ≡ Some j → j.number ≡ n
number_is st t n j is = eqb-true j.number n (find_inside (λ (k : Job). k.number == n) (jobs st t) j is).1

pub its_command : (st : Setting) (t : Trace) (n : ℕ) (j : Job) (c : Command) → job_numbered st t n ≡ Some j → command_numbered st t n ≡ Some c → j.command ≡ Ok c
its_command st t n j c is says = command_read j c (sym (ap (λ o. option_and_then command_of o) is) ∙ says)

-- Who runs ran before.
pub ran_past : (past : Trace) (e : Entry) (j : ℕ) → is_running (e ∷ past) j ≡ true → is_running past j ≡ true
ran_past past e j runs = by (reply_to past j) refl runs where
  by : (o : Option Replied) → reply_to past j ≡ o → is_none (elim o as (λ z. Option Replied) [ Some r ↦ Some r | None ↦ reply_in j past e ]) ≡ true → is_running past j ≡ true
  by None none is = ap (λ o. is_none o) none
  by (Some r) has is = absurd (false_is_true is)

-- ---- what a job says

pub with_command : (y : Answering) (c : Command) (P : Command → Type 0) → y.job.command ≡ Ok c → P c → job_command y P
with_command y c P is holds = subst (λ (res : Result Command ℕ). elim res as (λ z. Type 0) [ Ok d ↦ P d | Err e ↦ ⊥ ]) (sym is) holds

pub with_spot : (y : Answering) (c : Command) (r : ResourceArg) (P : ResourceArg → Spot → Type 0) → y.job.command ≡ Ok c → resource_named c ≡ Some r → P r (spot_of r) → WithSpot y P
with_spot y c r P is names holds =
    with_command y c (λ d. IsSomeAnd (resource_named d) (λ q. P q (spot_of q))) is (subst (λ o. IsSomeAnd o (λ q. P q (spot_of q))) (sym names) holds)

-- ---- the call

pub told_not_waking : (x : Step) (s : Session) (m : Submitted) (answer : Answer) → Hears x s m answer → x.input ≡ Wake → ⊥
told_not_waking x s m answer hears wake = apart x.input hears.heard wake where
  apart : (i : Input) → i ≡ Told hears.number answer → i ≡ Wake → ⊥
  apart i told is = cc

-- The call that was heard is the job's, and its answer stands in each later step.
pub record AnswersHere (x : Step) (m : Submitted) (answer : Answer) (n : ℕ) (z : Step) (j : Job) : Type 0 where
  pub call : AnswersCall (answering z j) m answer
  pub found : job_numbered x.setting (seen x) n ≡ Some j
  pub number : j.number ≡ n

pub answers_here : (x : Step) (s : Session) (m : Submitted) (answer : Answer) (n : ℕ) → Known x → Hears x s m answer → job_of m.call.purpose ≡ Some n
    → (z : Step) → IsLater x z → (j : Job) → job_numbered z.setting (seen z) n ≡ Some j → AnswersHere x m answer n z j
answers_here x s m answer n k hears of z later j is = by (later.carried (told_not_waking x s m answer hears)) where
  by : IsCarried x z → AnswersHere x m answer n z j
  by carried =
      let found : job_numbered x.setting (seen x) n ≡ Some j = same_job x z n j later carried is in
      let number : j.number ≡ n = number_is x.setting (seen x) n j found in
      record {
        call = record {
          submitted_before = subst (λ ms. Contains ms m) (sym carried.calls) (contains_right carried.more (submitted (seen x)) m (heard_call x s m answer hears).0);
          of_job = ap (λ o. some_is (λ i. i == j.number) o) of ∙ (ap (λ i. i == j.number) (sym number) ∙ number_itself j.number);
          answered = subst (λ t. IsAnsweredAt (length t) m answer) (sym later.before) (heard_answered x s m answer k.0.facts.calls k.0.orderly hears);
        };
        found = found;
        number = number;
      }
