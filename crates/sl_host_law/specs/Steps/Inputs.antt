-- What an input makes due; a wake is looked at afterwards.
use Rattle.sl_host_state.specs.HeardInputs.{heard_exit, heard_number, heard_start}
use Rattle.sl_host_state.specs.KeptState.{HostState}
use Rattle.sl_host_law.specs.Steps.Answers.{answering}
use Rattle.sl_host_law.specs.Steps.LineSteps.{lining}
use Rattle.sl_host_law.specs.StepParts.Exits.{exiting}
use Rattle.sl_host_law.specs.StepParts.Spawns.{child_in, spawning}
use Rattle.sl_trace.specs.declared.input.Input.TheVariants.{Answer as Told, Exit, Line, Number, Spawned, Wake}
use Rattle.sl_trace.specs.declared.input.Input.{Input}
use Rattle.std.specs.Prelude.{Bool, None, Some, ℕ}

-- A start is answered.
abbrev pub starting : ℕ → Bool → HostState → HostState
starting p ok h = elim (child_in h p) [ None ↦ heard_start p ok h | Some k ↦ spawning p ok k (heard_start p ok h) ]

-- By what it is.
abbrev pub taking : Input → HostState → HostState
taking (Line text) h = lining (h.config.read text) h
taking (Number text) h = heard_number h
taking (Told number a) h = answering number a h
taking (Exit p) h = exiting p (heard_exit p h)
taking (Spawned p ok) h = starting p ok h
taking Wake h = h
