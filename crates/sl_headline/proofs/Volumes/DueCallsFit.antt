-- What is known of the jobs of a daemon that does what is due says of its calls for values that they fit their commands.
use Rattle.sl_due.specs.Due.{IsDue, IsHostTrace}
use Rattle.sl_due_law.proofs.DueIsLawful.{due_is_lawful}
use Rattle.sl_due_law.proofs.LawfulTraces.TracesHold.{traces_hold}
use Rattle.sl_due_facts.specs.Facts.JobFacts.{FitsCommand, JobFacts}
use Rattle.sl_due_law.specs.LawfulTraces.CarriedFacts.{Holds}
use Rattle.sl_run.specs.Lawful.{IsSetting}
use Rattle.sl_trace.specs.Jobs.{command_numbered, command_of}
use Rattle.sl_words.proofs.Options.{some_of, then_value}
use Rattle.sl_run.specs.Runs.{EachDaemon}
use Rattle.sl_run.specs.Safety.{LawfulRun, world_at}
use Rattle.sl_trace.specs.Sessions.{session_numbered}
use Rattle.sl_trace.specs.declared.session.Session.{Session}
use Rattle.sl_trace.proofs.TraceFacts.{each_entry-front}
use Rattle.sl_trace.specs.Traces.{FollowsTrace, Setting, Submitted, Trace, job_numbered, job_of, submitted}
use Rattle.sl_trace.specs.declared.command.Command.TheVariants.{GetLvb, SetLvb}
use Rattle.sl_trace.specs.declared.command.Command.{Command}
use Rattle.sl_trace.specs.declared.effects.Purpose.TheVariants.{Joining, Lease, Leaving, Renewal, RequestRead, RequestWrite, SeeRequest, Survey, ValueRead, ValueWrite}
use Rattle.sl_trace.specs.declared.effects.Purpose.{Purpose}
use Rattle.sl_headline.proofs.Volumes.EntriesAtFronts.{each_front}
use Rattle.sl_headline.specs.Volumes.DueCallsFit.{DueCallsFit, DueRunsAreAnswered}
use Rattle.sl_headline.specs.Volumes.FittingRuns.{FitsValue, IsJobOf}
use Rattle.sl_words.proofs.CaseLaws.{none_some, some_value}
use Rattle.std.proofs.Common.{ap, refl, subst, ◌∙◌}
use Rattle.std.specs.Prelude.{Contains, Err, None, Ok, Option, Result, Some, ℕ, ◌++◌, ◌≡◌}

-- ---- commands

read_by : (o : Result Command ℕ) (c : Command) → elim o as (λ x. Option Command) [ Ok d ↦ Some d | Err e ↦ None ] ≡ Some c → o ≡ Ok c
read_by (Ok d) c h = ap (λ x. Ok x) (some_value d c h)
read_by (Err e) c h = absurd (none_some c h)

job_of_command : (st : Setting) (es : Trace) (n : ℕ) (c d : Command) → command_numbered st es n ≡ Some c → c ≡ d → IsJobOf st es n d
job_of_command st es n c d is same =
    let j = then_value command_of (job_numbered st es n) c is in (j.0, j.1, read_by j.0.command c j.2 ∙ ap (λ x. Ok x) same)

-- ---- calls

-- What its job's command says of a call.
record Fits (st : Setting) (es : Trace) (m : Submitted) (n : ℕ) : Type 0 where
  session : Session
  command : Command
  numbered : command_numbered st es n ≡ Some command
  fits : FitsCommand st session m command m.call.purpose

fits_job : (st : Setting) (es : Trace) → Holds st es → (m : Submitted) → Contains (submitted es) m → (n : ℕ) → job_of m.call.purpose ≡ Some n → Fits st es m n
fits_job st es h m there n of =
    let jobs : JobFacts st es None = h.whole.facts.jobs in
    let s = some_of (session_numbered st es m.call.session) (h.whole.facts.calls.owned m there) in
    let c = some_of (command_numbered st es n) (jobs.called m n there of) in
    record { session = s.0; command = c.0; numbered = c.1; fits = jobs.fits m n s.0 c.0 there of s.1 c.1 }

value_fits : (st : Setting) (es : Trace) → Holds st es → (m : Submitted) → Contains (submitted es) m → (q : Purpose) → m.call.purpose ≡ q → FitsValue st es m q
value_fits st es h m there (ValueRead j) is =
    let k = fits_job st es h m there j (ap job_of is) in
    let f : FitsCommand st k.session m k.command (ValueRead j) = subst (λ (q : Purpose). FitsCommand st k.session m k.command q) is k.fits in
    (f.0, f.1, job_of_command st es j k.command (GetLvb f.0 f.1) k.numbered f.2, f.3.1)
value_fits st es h m there (ValueWrite j) is =
    let k = fits_job st es h m there j (ap job_of is) in
    let f : FitsCommand st k.session m k.command (ValueWrite j) = subst (λ (q : Purpose). FitsCommand st k.session m k.command q) is k.fits in
    (f.0, f.1, f.2, job_of_command st es j k.command (SetLvb f.0 f.1 f.2) k.numbered f.3, f.4.1)
value_fits st es h m there (Joining j step) is = tt
value_fits st es h m there Renewal is = tt
value_fits st es h m there Survey is = tt
value_fits st es h m there SeeRequest is = tt
value_fits st es h m there (Leaving j) is = tt
value_fits st es h m there (Lease work step) is = tt
value_fits st es h m there (RequestRead j) is = tt
value_fits st es h m there (RequestWrite j owner) is = tt

pub due_calls_fit : DueCallsFit
due_calls_fit st es setting host m there = value_fits st es (traces_hold st es setting host) m there m.call.purpose refl

-- ---- runs

host_front : (st : Setting) (newer es : Trace) → IsSetting st × IsHostTrace st (newer ++ es) → IsSetting st × IsHostTrace st es
host_front st newer es h = (h.0, (each_entry-front (FollowsTrace st) newer es h.1.0, each_entry-front (IsDue st) newer es h.1.1))

pub due_runs_are_answered : DueRunsAreAnswered
due_runs_are_answered p h xs run reads due set =
    record {
      run = run;
      caused = λ d has. (due_is_lawful d.setting d.trace (set d has) (due d has)).1;
      reads = reads;
      fit = λ now rest whole d has.
          let its = each_front (λ st es. IsSetting st × IsHostTrace st es) host_front p h now rest
          (subst (λ ys. LawfulRun p h ys) whole run).is_run
          (subst (λ ys. EachDaemon (λ st es. IsSetting st × IsHostTrace st es) (world_at p h ys)) whole (λ e on. (set e on, due e on))) d has in
          due_calls_fit d.setting d.trace its.0 its.1;
    }
