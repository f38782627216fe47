-- What lvmlockd's locks know of a group's value: a version that the host told them, by its reply to a read or a write that they asked.
use Rattle.sl_run.specs.LockNames.{group_lock, resource_of}
use Rattle.sl_run.specs.Lvm.{SeenValue, lock_process}
use Rattle.sl_run.specs.Runs.{Happening}
use Rattle.sl_run.specs.Safety.{world_at}
use Rattle.sl_run.specs.Worlds.{Daemon, Machine, Program, World, machine_at}
use Rattle.sl_run.specs.declared.header.Header.{Header}
use Rattle.sl_trace.specs.Traces.{Setting, Trace}
use Rattle.sl_trace.specs.declared.command.Command.TheVariants.{GetLvb, SetLvb}
use Rattle.sl_trace.specs.declared.effects.Entry.{Entry}
use Rattle.sl_trace.specs.declared.effects.JobReply.{JobReply}
use Rattle.sl_trace.specs.declared.reply.Reply.TheVariants.{Value, ValueSet}
use Rattle.sl_headline.specs.Volumes.FittingRuns.{AnsweredRun, IsJobOf}
use Rattle.std.specs.Prelude.{Contains, List, Some, [], ℕ, ◌++◌, ◌∷◌, ◌≡◌, ◌⊎◌}

-- The reply tells this version of the group's value: of a read that the locks asked for, or of a write.
abbrev pub TellsVersion : ℕ → Setting → Trace → JobReply → List ℕ → ℕ → ℕ → Type 0
TellsVersion area st es a group lver seq =
    ((bytes : List ℕ) × IsJobOf st es a.job (GetLvb (resource_of area (group_lock group)) lock_process) × (a.reply ≡ Value lver seq bytes))
    ⊎ (IsJobOf st es a.job (SetLvb (resource_of area (group_lock group)) lock_process (1 ∷ [])) × (a.reply ≡ ValueSet lver seq))

-- The newest entry of the machine's daemon does.
pub record IsTold (w : World) (area m : ℕ) (group : List ℕ) (lver seq : ℕ) : Type 0 where
  pub machine : Machine
  pub daemon : Daemon
  pub entry : Entry
  pub past : Trace
  pub reply : JobReply
  pub there : (machine_at w m ≡ Some machine) × (machine.daemon ≡ Some daemon) × (daemon.trace ≡ entry ∷ past)
  pub given : Contains entry.effects.replies reply
  pub tells : TellsVersion area daemon.setting (entry ∷ past) reply group lver seq

-- It did at a front of the run.
pub record WasTold (p : Program) (h : Header) (xs : List Happening) (m : ℕ) (v : SeenValue) : Type 0 where
  pub now : List Happening
  pub rest : List Happening
  pub whole : xs ≡ now ++ rest
  pub told : IsTold (world_at p h now) h.geometry.area m v.group v.lver v.seq

-- Each version that a machine's locks know was told so.
abbrev pub VersionsWereTold : Type 0
VersionsWereTold =
    (p : Program) (h : Header) (xs : List Happening) → AnsweredRun p h xs → (m : ℕ) (a : Machine) (v : SeenValue) →
    machine_at (world_at p h xs) m ≡ Some a → Contains a.locks.lvm.seen v → WasTold p h xs m v
