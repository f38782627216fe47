-- What a machine itself takes of the input that its daemon is given.
use Rattle.sl_locks.specs.Steps.{lock_input}
use Rattle.sl_locks.specs.declared.line_steps.LockInput.{LockInput}
use Rattle.sl_machine.specs.declared.heard_inputs.Heard.{Heard}
use Rattle.sl_run.specs.Locks.{Locks, locks_after}
use Rattle.sl_trace.specs.declared.effects.Effects.{Effects}
use Rattle.sl_trace.specs.declared.input.Input.TheVariants.{Answer as Told, Exit, Line, Number, Spawned, Wake}
use Rattle.sl_trace.specs.declared.input.Input.{Input}
use Rattle.std.specs.Prelude.{None, Some, false, true, [], ℕ, ◌≡◌}

abbrev pub heard_of : Input → Heard
heard_of (Told n a) = record { answered = Some n; spawned = None; numbered = false }
heard_of (Spawned p ok) = record { answered = None; spawned = Some p; numbered = false }
heard_of (Line text) = record { answered = None; spawned = None; numbered = true }
heard_of (Number text) = record { answered = None; spawned = None; numbered = true }
heard_of Wake = record { answered = None; spawned = None; numbered = false }
heard_of (Exit p) = record { answered = None; spawned = None; numbered = false }

-- The locks take this of an input.
abbrev pub IsLockInput : LockInput → Input → Type 0
IsLockInput l i = (number : ℕ) (fx : Effects) (k : Locks) → locks_after number i fx k ≡ locks_after number (lock_input l) fx k

-- The part of an input that the locks take: its step is theirs with this input.
abbrev pub heard_by_locks : Input → Input
heard_by_locks (Line text) = Line []
heard_by_locks (Number text) = Number text
heard_by_locks (Exit p) = Exit p
heard_by_locks (Told n a) = Wake
heard_by_locks Wake = Wake
heard_by_locks (Spawned p ok) = Wake

-- The locks after a step are those after the part that they take.
abbrev pub LocksHearTheirPart : Type 0
LocksHearTheirPart = (number : ℕ) (i : Input) (fx : Effects) (k : Locks) → locks_after number (heard_by_locks i) fx k ≡ locks_after number i fx k
