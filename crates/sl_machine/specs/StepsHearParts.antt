-- Steps by the part of the input that a machine takes.
use Rattle.sl_world_state.specs.KeptWorld.{MachineState}
use Rattle.sl_world_state.specs.Steps.{stepped_machine}
use Rattle.sl_machine.specs.HeardInputs.{heard_by_locks, heard_of}
use Rattle.sl_machine.specs.Machines.{stepped_by}
use Rattle.sl_run.specs.declared.header.Header.{Header}
use Rattle.sl_trace.specs.declared.effects.Effects.{Effects}
use Rattle.sl_trace.specs.declared.input.Input.{Input}
use Rattle.std.specs.Prelude.{◌≡◌}

-- A step of a daemon is that of what its machine takes of the input.
abbrev pub StepsHearTheirPart : Type 0
StepsHearTheirPart =
    (h : Header) (i : Input) (fx : Effects) (s : MachineState) → stepped_by h (heard_of i) (heard_by_locks i) fx s ≡ stepped_machine h i fx s
