-- What a step asks of jobs, and what answers it of those that are kept.
use Rattle.sl_due.specs.DueTimeOuts.{refuse, time_out}
use Rattle.sl_due.specs.CarriedLease.{goes_on}
use Rattle.sl_due.specs.Steps.{Step, seen, when, with_some}
use Rattle.sl_host_state.specs.KeptState.{HostState, MemberState}
use Rattle.sl_host_state.specs.HostStands.{Stands, kept_job, kept_waiting}
use Rattle.sl_host_state.specs.declared.kept_parts.JobState.{JobState}
use Rattle.sl_host_state.specs.declared.kept_parts.WaitingCall.{WaitingCall}
use Rattle.sl_trace.specs.Jobs.{aim_of, aim_of_command, child_of_job, command_numbered, is_job_of_process, process_named}
use Rattle.sl_trace.specs.Leases.{lease_step}
use Rattle.sl_trace.specs.declared.lease.Aim.TheVariants.{Settles}
use Rattle.sl_trace.specs.declared.lease.Aim.{Aim}
use Rattle.sl_host_law.specs.Decisions.CommandDecisions.{is_active_member}
use Rattle.sl_host_law.specs.Questions.Members.{IsMemberAt}
use Rattle.sl_trace.specs.Sessions.{session_of_job}
use Rattle.sl_trace.specs.Traces.{Job, Submitted, is_running, job_of, running_jobs, submitted, waiting_call}
use Rattle.sl_trace.specs.declared.command.Command.{Command}
use Rattle.sl_trace.specs.declared.effects.LeaseStep.{LeaseStep}
use Rattle.sl_trace.specs.declared.effects.Work.TheVariants.{ForJob, Settling}
use Rattle.sl_trace.specs.declared.effects.Work.{Work}
use Rattle.sl_trace.specs.declared.input.Input.{Input}
use Rattle.sl_trace.specs.declared.reply.Reply.TheVariants.{IoTimeout}
use Rattle.sl_words.specs.Words.{some_is}
use Rattle.std.specs.List.{list_any}
use Rattle.std.specs.Prelude.{Bool, Contains, Option, Some, filter, find, map, nat_le, option_and_then, option_map, true, ℕ, ◌+◌, ◌==◌, ◌≡◌, ◌||◌}

-- Whether a job of this number runs.
abbrev pub running_in : HostState → ℕ → Bool
running_in h n = list_any (λ j. j.number == n) h.jobs

-- What the command of a running job says.
abbrev pub command_in : HostState → ℕ → Option Command
command_in h n = option_and_then (λ j. j.command) (find (λ j. j.number == n) h.jobs)

-- Whether work on a lease goes on: its job's while that runs, a settling while the session is active.
abbrev pub goes_on_in : HostState → MemberState → Work → Bool
goes_on_in h m (ForJob j) = running_in h j
goes_on_in h m Settling = is_active_member m

-- To what end the work is done.
abbrev pub aim_in : HostState → Work → Option Aim
aim_in h (ForJob j) = option_and_then aim_of_command (command_in h j)
aim_in h Settling = Some Settles

-- The member whose joining the job is.
abbrev pub joining_in : HostState → ℕ → Option MemberState
joining_in h n = find (λ m. some_is (λ j. j == n) m.who.job) h.members

-- Whether the job is for this process, or waits for this child.
abbrev pub is_of_process_in : ℕ → JobState → Bool
is_of_process_in p j = some_is (λ c. some_is (λ q. q == p) (process_named c)) j.command || some_is (λ q. q == p) j.child

-- Whether the call for which a job waits has been unanswered for `io` or longer.
abbrev pub is_overdue_in : HostState → WaitingCall → Bool
is_overdue_in h c = nat_le (c.reading + h.config.timing.io) h.reading

-- A job whose call is overdue is refused.
abbrev pub time_out_in : HostState → JobState → Step → Step
time_out_in h j x =
    with_some j.waits (λ c. when (is_overdue_in h c) (refuse j.number (IoTimeout c.number c.reading h.reading))) x

-- Each question of jobs has this answer.
pub record JobAnswers (h : HostState) (x : Step) : Type 0 where
  -- whether the job of a call runs
  pub called : (d : Submitted) (n : ℕ) → Contains (submitted (seen x)) d → job_of d.call.purpose ≡ Some n → is_running (seen x) n ≡ running_in h n
  pub command : (n : ℕ) → running_in h n ≡ true → command_numbered x.setting (seen x) n ≡ command_in h n
  pub aim : (m : MemberState) (work : Work) → goes_on_in h m work ≡ true → aim_of x.setting (seen x) work ≡ aim_in h work
  pub joining : (n : ℕ) → running_in h n ≡ true → session_of_job x.setting (seen x) n ≡ option_map (λ m. m.who) (joining_in h n)
  pub process : (p : ℕ) → map (kept_job (seen x)) (filter (is_job_of_process (seen x) p) (running_jobs x.setting (seen x))) ≡ filter (is_of_process_in p) h.jobs
  -- of a job that is kept so
  pub child : (j : Job) (s : JobState) → kept_job (seen x) j ≡ s → child_of_job (seen x) s.number ≡ s.child
  pub waits : (j : Job) (s : JobState) → kept_job (seen x) j ≡ s → option_map kept_waiting (waiting_call (seen x) s.number) ≡ s.waits
  pub overdue : (j : Job) (s : JobState) → kept_job (seen x) j ≡ s → time_out j x ≡ time_out_in h s x

abbrev pub JobsAnswer : Type 0
JobsAnswer = (i : Input) (h : HostState) (x : Step) → Stands i h x → JobAnswers h x

-- Whether the work of a member's call goes on.
abbrev pub WorkGoesOn : Type 0
WorkGoesOn =
    (i : Input) (h : HostState) (x : Step) (k : ℕ) (m : MemberState) (d : Submitted) (work : Work) (step : LeaseStep) → IsMemberAt i h x k m
    → Contains (submitted (seen x)) d → lease_step d.call.purpose ≡ Some (work, step) → goes_on x.setting (seen x) m.who work ≡ goes_on_in h m work
