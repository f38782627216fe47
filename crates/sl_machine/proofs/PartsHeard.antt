-- What a machine takes of an input is all that its step asks of it.
use Rattle.sl_world_state.specs.KeptWorld.{MachineState}
use Rattle.sl_machine.specs.HeardInputs.{LocksHearTheirPart}
use Rattle.sl_machine.specs.StepsHearParts.{StepsHearTheirPart}
use Rattle.sl_run.specs.Locks.{Locks, Told as LineTold, locks_after}
use Rattle.sl_run.specs.declared.header.Header.{Header}
use Rattle.sl_world_state.specs.Steps.{stepped_machine}
use Rattle.sl_trace.specs.declared.effects.Effects.{Effects}
use Rattle.sl_trace.specs.declared.input.Input.TheVariants.{Answer as Told, Exit, Line, Number, Spawned, Wake}
use Rattle.sl_trace.specs.declared.input.Input.{Input}
use Rattle.std.proofs.Common.{ap, refl}

pub locks_hear_their_part : LocksHearTheirPart
unfolding locks_after
locks_hear_their_part number (Line text) fx k = refl
locks_hear_their_part number (Number text) fx k = refl
locks_hear_their_part number (Exit p) fx k = refl
locks_hear_their_part number (Told n a) fx k = refl
locks_hear_their_part number Wake fx k = refl
locks_hear_their_part number (Spawned p ok) fx k = refl

with_locks : (h : Header) (i : Input) (fx : Effects) (s : MachineState) → Locks × LineTold → MachineState
with_locks h i fx s p = record (stepped_machine h i fx s) { locks = p.0 }

pub steps_hear_their_part : StepsHearTheirPart
unfolding with_locks
steps_hear_their_part h (Line text) fx s = ap (with_locks h (Line text) fx s) (locks_hear_their_part s.next.job (Line text) fx s.locks)
steps_hear_their_part h (Number text) fx s = refl
steps_hear_their_part h (Exit p) fx s = refl
steps_hear_their_part h (Told n a) fx s = ap (with_locks h (Told n a) fx s) (locks_hear_their_part s.next.job (Told n a) fx s.locks)
steps_hear_their_part h Wake fx s = refl
steps_hear_their_part h (Spawned p ok) fx s = ap (with_locks h (Spawned p ok) fx s) (locks_hear_their_part s.next.job (Spawned p ok) fx s.locks)
