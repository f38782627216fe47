-- What the host is asked, as a command of its language.
use Rattle.sl_locks.specs.declared.ask.Ask.TheVariants.{Acquire as AskAcquire, Join, Leave, ReadValue, Release as AskRelease, WriteValue}
use Rattle.sl_locks.specs.declared.ask.Ask.{Ask}
use Rattle.sl_run.specs.LockNames.{Lock, lockspace_of, resource_of}
use Rattle.sl_run.specs.Lvm.{lock_process}
use Rattle.sl_text.specs.Forms.{spaced}
use Rattle.sl_trace.specs.CommandForms.{command_words, lockspace_word, moded_word}
use Rattle.sl_trace.specs.Traces.{is_shared}
use Rattle.sl_trace.specs.declared.command.Command.TheVariants.{Acquire, AddLockspace, GetLvb, Release, RemLockspace, SetLvb}
use Rattle.sl_trace.specs.declared.command.Command.{Command}
use Rattle.std.specs.Prelude.{Bool, List, codes, decimal, false, [], ℕ, ◌++◌, ◌∷◌}

-- In areas of this size.
abbrev pub ask_command : ℕ → Ask → Command
ask_command area (Join group id) = AddLockspace (lockspace_of group id)
ask_command area (Leave group id) = RemLockspace (lockspace_of group id)
ask_command area (AskAcquire lock mode) = Acquire (resource_of area lock) (is_shared mode) lock_process false
ask_command area (AskRelease lock) = Release (resource_of area lock) lock_process
ask_command area (ReadValue lock) = GetLvb (resource_of area lock) lock_process
ask_command area (WriteValue lock) = SetLvb (resource_of area lock) lock_process (1 ∷ [])

-- Its text.
abbrev pub ask_text : ℕ → Ask → List ℕ
ask_text area a = spaced (command_words (ask_command area a))

-- The word of a lock, with the mark of the shared mode or without it.
abbrev pub lock_word : ℕ → Lock → Bool → List ℕ
lock_word area l shared = moded_word (resource_of area l) shared

-- The word of a group's lockspace.
abbrev pub space_word : List ℕ → ℕ → List ℕ
space_word group id = lockspace_word (lockspace_of group id)

-- The process that holds for lvmlockd, as the end of an ask.
abbrev pub process_text : List ℕ
process_text = codes " -p " ++ decimal lock_process
