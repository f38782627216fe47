-- What is asked of a run beside the laws of safety, so that an answer to lvmlockd's locks is an answer to what they asked: the program reads
-- their asks as the commands that they spell, each reply has its cause, and a call for a value is made for a command on that value.
use Rattle.sl_run.specs.Caused.{IsCaused}
use Rattle.sl_trace.specs.Leases.{spot_of, spot_of_call}
use Rattle.sl_run.specs.Lvm.{Course}
use Rattle.sl_run.specs.Runs.{AfterEachFront, EachDaemon, Happening}
use Rattle.sl_run.specs.Safety.{LawfulRun, world_at}
use Rattle.sl_run.specs.Worlds.{Program}
use Rattle.sl_run.specs.declared.header.Header.{Header}
use Rattle.sl_text.specs.Forms.{spaced}
use Rattle.sl_trace.specs.CommandForms.{command_in, command_words}
use Rattle.sl_trace.specs.Traces.{Job, Setting, Submitted, Trace, job_numbered, submitted}
use Rattle.sl_trace.specs.declared.command.Command.TheVariants.{GetLvb, SetLvb}
use Rattle.sl_trace.specs.declared.command.Command.{Command}
use Rattle.sl_trace.specs.declared.command.ResourceArg.{ResourceArg}
use Rattle.sl_trace.specs.declared.effects.Purpose.TheVariants.{ValueRead, ValueWrite}
use Rattle.sl_trace.specs.declared.effects.Purpose.{Purpose}
use Rattle.sl_headline.specs.Volumes.LockAsks.{IsFairCourse, asked_command}
use Rattle.std.specs.Prelude.{Contains, List, Ok, Some, ℕ, ◌≡◌}

-- The program reads each ask of lvmlockd's locks as the command that it spells.
abbrev pub ReadsAsks : Program → Header → Type 0
ReadsAsks p h =
    (course : Course) (c : Command) → IsFairCourse h.geometry.area h.retries course → asked_command h.geometry.area course ≡ Some c →
    command_in (p.commands h) (spaced (command_words c)) ≡ Ok c

-- The job of this number has this command.
abbrev pub IsJobOf : Setting → Trace → ℕ → Command → Type 0
IsJobOf st es number c = (j : Job) × (job_numbered st es number ≡ Some j) × (j.command ≡ Ok c)

-- A call for a value is on the resource that its job's command names.
abbrev pub FitsValue : Setting → Trace → Submitted → Purpose → Type 0
FitsValue st es m (ValueRead j) = (r : ResourceArg) × (p : ℕ) × IsJobOf st es j (GetLvb r p) × (spot_of_call st.layout m ≡ spot_of r)
FitsValue st es m (ValueWrite j) = (r : ResourceArg) × (p : ℕ) × (bytes : List ℕ) × IsJobOf st es j (SetLvb r p bytes) × (spot_of_call st.layout m ≡ spot_of r)
FitsValue st es m purpose = Unit {0}

-- So is each such call of the trace.
abbrev pub ValueCallsFit : Setting → Trace → Type 0
ValueCallsFit st es = (m : Submitted) → Contains (submitted es) m → FitsValue st es m m.call.purpose

-- A lawful run in which replies have their causes, and commands their calls.
pub record AnsweredRun (p : Program) (h : Header) (xs : List Happening) : Type 0 where
  pub run : LawfulRun p h xs
  pub caused : EachDaemon IsCaused (world_at p h xs)
  pub reads : ReadsAsks p h
  pub fit : AfterEachFront xs (λ now. EachDaemon ValueCallsFit (world_at p h now))
