-- Of the values that a holder set before, the last one is enough: so nothing is asked of an input that may come but that what a read gives
-- are bytes.
use Rattle.sl_due.specs.Due.{due}
use Rattle.sl_due.specs.Steps.{Step}
use Rattle.sl_host_law.specs.Decisions.DecisionLaws.{LastIsEnough}
use Rattle.sl_host_law.specs.Steps.LinesFollow.{LineMay}
use Rattle.sl_host_law.specs.Steps.SoundHosts.{IsSound}
use Rattle.sl_host_law.specs.Steps.StepFunction.{effects_of, stepped}
use Rattle.sl_host_law.specs.Steps.StepsFollow.{StepComes, entry_at}
use Rattle.sl_host_state.specs.KeptState.{HostState}
use Rattle.sl_host_state.specs.HostStands.{HostStands}
use Rattle.sl_step_law.specs.Answers.{IsOfBytes}
use Rattle.sl_step_law.specs.ReadyHosts.{InputComes, IsReady}
use Rattle.sl_step_law.specs.StepsAreTaken.{MayCome}
use Rattle.sl_trace.specs.Traces.{Setting, Trace}
use Rattle.sl_trace.specs.declared.command.Command.{Command}
use Rattle.sl_trace.specs.declared.input.Input.TheVariants.{Answer as Told, Exit, Line, Number, Spawned, Wake}
use Rattle.sl_trace.specs.declared.input.Input.{Input}
use Rattle.std.specs.Prelude.{List, Ok, ℕ, ◌∷◌, ◌≡◌}

-- Of each command, whatever line it was.
abbrev pub LastValuesAreEnough : Type 0
LastValuesAreEnough = (h : HostState) (x : Step) (c : Command) → IsReady h x → LastIsEnough h x c

-- So what a line comes to may be done.
abbrev pub LinesMayPlainly : Type 0
LinesMayPlainly = (h : HostState) (x : Step) (text : List ℕ) (c : Command) → IsReady h x → h.config.read text ≡ Ok c → LineMay h x text c

-- What a read gives are bytes; any other input is what it is.
abbrev pub IsByteInput : Input → Type 0
IsByteInput (Told n a) = IsOfBytes a
IsByteInput (Line text) = Unit {0}
IsByteInput (Number text) = Unit {0}
IsByteInput (Exit p) = Unit {0}
IsByteInput (Spawned p ok) = Unit {0}
IsByteInput Wake = Unit {0}

-- An input that comes to a host that stands.
pub record ComesPlainly (now : ℕ) (i : Input) (h : HostState) (st : Setting) (es : Trace) : Type 0 where
  pub comes : InputComes now i h st es
  pub bytes : IsByteInput i

-- It is one that may come, and the step is taken.
pub record StepsAreTakenPlainly : Type 0 where
  pub may : (now : ℕ) (i : Input) (h : HostState) (st : Setting) (es : Trace) → ComesPlainly now i h st es → MayCome now i h st es
  pub comes : (now : ℕ) (i : Input) (h : HostState) (st : Setting) (es : Trace) → ComesPlainly now i h st es → StepComes now i h st es
  pub effects : (now : ℕ) (i : Input) (h : HostState) (st : Setting) (es : Trace) → ComesPlainly now i h st es → effects_of now i h ≡ due st es now i
  pub stands : (now : ℕ) (i : Input) (h : HostState) (st : Setting) (es : Trace) → ComesPlainly now i h st es → HostStands (stepped now i h) st (entry_at st es now i ∷ es)
  pub sound : (now : ℕ) (i : Input) (h : HostState) (st : Setting) (es : Trace) → ComesPlainly now i h st es → IsSound (stepped now i h)
