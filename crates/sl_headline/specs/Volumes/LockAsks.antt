-- What the locks of a machine ask: how far a line has come names its ask, and a lock is one that a line has named.
use Rattle.sl_run.specs.LockNames.{Lock, group_lock, resource_of}
use Rattle.sl_run.specs.Lvm.{Acquiring, Course, Moving, Reading, Releasing, Writing, lock_process}
use Rattle.sl_run.specs.LvmLines.{Gives_writing, LvmLine, Takes, Takes_comparing, lvm_line_in}
use Rattle.sl_text.specs.Forms.{spaced}
use Rattle.sl_trace.specs.CommandForms.{command_words}
use Rattle.sl_trace.specs.Traces.{is_shared}
use Rattle.sl_trace.specs.declared.command.Command.TheVariants.{Acquire, GetLvb, SetLvb}
use Rattle.sl_trace.specs.declared.command.Command.{Command}
use Rattle.std.specs.Prelude.{List, None, Ok, Option, Some, false, true, [], ℕ, ◌∷◌, ◌≡◌, ◌≤◌}

-- The lock that a line takes, or gives a new value.
abbrev pub lock_taken : LvmLine → Option Lock
lock_taken (Takes l mode) = Some l
lock_taken (Takes_comparing l mode) = Some l
lock_taken (Gives_writing l) = Some l
lock_taken x = None

-- A line names the lock so, with areas of this size.
abbrev pub IsNamedLock : ℕ → Lock → Type 0
IsNamedLock area l = (text : List ℕ) × (x : LvmLine) × (lvm_line_in area text ≡ Ok x) × (lock_taken x ≡ Some l)

-- The command that was asked last, where it takes a lock, or reads or writes a value.
abbrev pub asked_command : ℕ → Course → Option Command
asked_command area (Acquiring l mode again compares) = Some (Acquire (resource_of area l) (is_shared mode) lock_process false)
asked_command area (Reading l) = Some (GetLvb (resource_of area l) lock_process)
asked_command area (Writing l) = Some (SetLvb (resource_of area l) lock_process (1 ∷ []))
asked_command area c = None

-- The text asks that.
abbrev pub IsAskOf : ℕ → Course → List ℕ → Type 0
IsAskOf area course text = (c : Command) → asked_command area course ≡ Some c → text ≡ spaced (command_words c)

-- How far a line may have come, where an acquire is asked again so often at most: only the lock of a group has a value.
abbrev pub IsFairCourse : ℕ → ℕ → Course → Type 0
IsFairCourse area retries (Acquiring l mode again compares) = (again ≤ retries) × IsNamedLock area l × (compares ≡ true → l ≡ group_lock l.group)
IsFairCourse area retries (Reading l) = IsNamedLock area l × (l ≡ group_lock l.group)
IsFairCourse area retries (Writing l) = IsNamedLock area l × (l ≡ group_lock l.group)
IsFairCourse area retries Moving = Unit {0}
IsFairCourse area retries (Releasing l refused) = Unit {0}
