-- What jobs are about: the lockspace, the process and the resource that their commands name.
use Rattle.sl_trace.specs.declared.lease.Aim.TheVariants.{Acquires, Converts, Releases, Settles}
use Rattle.sl_trace.specs.declared.lease.Aim.{Aim}
use Rattle.sl_trace.specs.declared.session.Session.{Session}
use Rattle.sl_trace.specs.Traces.{Job, Setting, Trace, child_numbered, children, job_numbered, running_jobs}
use Rattle.sl_trace.specs.declared.command.Command.TheVariants.{Acquire, AddLockspace, Convert, GetLvb, HostStatus, InqLockspace, Release, ReleaseOrphan, RemLockspace, Request, RunProgram, SetKillpath, SetLvb, Status, TakeOver}
use Rattle.sl_trace.specs.declared.command.Command.{Command}
use Rattle.sl_trace.specs.declared.command.ResourceArg.{ResourceArg}
use Rattle.sl_trace.specs.declared.effects.Mode.TheVariants.{Exclusive, Shared}
use Rattle.sl_trace.specs.declared.effects.Mode.{Mode}
use Rattle.sl_trace.specs.declared.effects.Work.TheVariants.{ForJob, Settling}
use Rattle.sl_trace.specs.declared.effects.Work.{Work}
use Rattle.sl_words.specs.Words.{some_is}
use Rattle.std.specs.Prelude.{Bool, Err, List, None, Ok, Option, Some, bytes_eq, false, filter, find, is_some, option_and_then, option_map, true, ℕ, ◌==◌, ◌||◌}

-- The lockspace that a command names.
abbrev pub lockspace_named : Command → Option (List ℕ)
lockspace_named (AddLockspace a) = Some a.name
lockspace_named (RemLockspace a) = Some a.name
lockspace_named (InqLockspace a) = Some a.name
lockspace_named (HostStatus a) = Some a.name
lockspace_named (Acquire r shared p persistent) = Some r.lockspace
lockspace_named (TakeOver r shared p persistent) = Some r.lockspace
lockspace_named (Release r p) = Some r.lockspace
lockspace_named (ReleaseOrphan r) = Some r.lockspace
lockspace_named (Convert r shared p) = Some r.lockspace
lockspace_named (RunProgram r shared path) = Some r.lockspace
lockspace_named (Request r lver force) = Some r.lockspace
lockspace_named (GetLvb r p) = Some r.lockspace
lockspace_named (SetLvb r p bytes) = Some r.lockspace
lockspace_named (SetKillpath p path) = None
lockspace_named Status = None

-- The process for which a command is given.
abbrev pub process_named : Command → Option ℕ
process_named (Acquire r shared p persistent) = Some p
process_named (TakeOver r shared p persistent) = Some p
process_named (Release r p) = Some p
process_named (Convert r shared p) = Some p
process_named (GetLvb r p) = Some p
process_named (SetLvb r p bytes) = Some p
process_named (SetKillpath p path) = Some p
process_named c = None

-- The resource that a command is about.
abbrev pub resource_named : Command → Option ResourceArg
resource_named (Acquire r shared p persistent) = Some r
resource_named (TakeOver r shared p persistent) = Some r
resource_named (Release r p) = Some r
resource_named (ReleaseOrphan r) = Some r
resource_named (Convert r shared p) = Some r
resource_named (RunProgram r shared path) = Some r
resource_named (Request r lver force) = Some r
resource_named (GetLvb r p) = Some r
resource_named (SetLvb r p bytes) = Some r
resource_named c = None

-- Whether it asks for the shared mode, or converts to it.
abbrev pub wants_shared : Command → Bool
wants_shared (Acquire r shared p persistent) = shared
wants_shared (TakeOver r shared p persistent) = shared
wants_shared (Convert r shared p) = shared
wants_shared (RunProgram r shared path) = shared
wants_shared c = false

-- Whether the holding that it asks for outlives its process.
abbrev pub wants_persistent : Command → Bool
wants_persistent (Acquire r shared p persistent) = persistent
wants_persistent (TakeOver r shared p persistent) = persistent
wants_persistent c = false

-- Whether it asks for a resource. (A take-over is answered at once, so it is never counted among those that may become holders.)
abbrev pub is_asking_lease : Command → Bool
is_asking_lease (Acquire r shared p persistent) = true
is_asking_lease (RunProgram r shared path) = true
is_asking_lease c = false

-- Whether it starts a program.
abbrev pub is_program : Command → Bool
is_program (RunProgram r shared path) = true
is_program c = false

-- What a job's command says, if its text says one.
abbrev pub command_of : Job → Option Command
command_of j = elim j.command [ Ok c ↦ Some c | Err e ↦ None ]

-- Whether the job's command passes.
abbrev pub is_command_that : (Command → Bool) → Job → Bool
is_command_that p j = some_is p (command_of j)

-- The command of the job with this number.
abbrev pub command_numbered : Setting → Trace → ℕ → Option Command
command_numbered st es job = option_and_then command_of (job_numbered st es job)

-- The running jobs that name the session's lockspace, by their numbers.
abbrev pub jobs_of_session : Setting → Trace → Session → List Job
jobs_of_session st es s = filter (is_command_that (λ c. some_is (λ n. bytes_eq n s.lockspace) (lockspace_named c))) (running_jobs st es)

-- The mode that it asks for.
abbrev pub wanted_mode : Command → Mode
wanted_mode c = elim (wants_shared c) [ true ↦ Shared | false ↦ Exclusive ]

-- To what end a job with this command works on a lease.
abbrev pub aim_of_command : Command → Option Aim
aim_of_command (Acquire r shared p persistent) = Some (Acquires (wanted_mode (Acquire r shared p persistent)))
aim_of_command (Convert r shared p) = Some (Converts (wanted_mode (Convert r shared p)))
aim_of_command (RunProgram r shared path) = Some (Acquires (wanted_mode (RunProgram r shared path)))
aim_of_command (Release r p) = Some Releases
aim_of_command (ReleaseOrphan r) = Some Releases
aim_of_command c = None

-- To what end a call works on a lease.
abbrev pub aim_of : Setting → Trace → Work → Option Aim
aim_of st es (ForJob j) = option_and_then aim_of_command (command_numbered st es j)
aim_of st es Settling = Some Settles

-- ---- children

-- The child of a job.
abbrev pub child_of_job : Trace → ℕ → Option ℕ
child_of_job es job = option_map (λ k. k.process) (find (λ k. some_is (λ j. j == job) k.job) (children es))

-- The job of a child's start.
abbrev pub job_of_start : Trace → ℕ → Option ℕ
job_of_start es process = option_and_then (λ k. k.job) (child_numbered es process)

-- Whether the job has its grant, and waits for its child.
abbrev pub is_granted_job : Trace → ℕ → Bool
is_granted_job es job = is_some (child_of_job es job)

-- Whether the job is for this process, or waits for this child.
abbrev pub is_job_of_process : Trace → ℕ → Job → Bool
is_job_of_process es process j =
    is_command_that (λ c. some_is (λ q. q == process) (process_named c)) j || some_is (λ q. q == process) (child_of_job es j.number)
