-- The whole of a step: nothing is asked of its input but that it may come.
use Rattle.sl_due.specs.Due.{before_input, due}
use Rattle.sl_due.specs.Steps.{Step, begin_step}
use Rattle.sl_host_law.specs.Decisions.DecisionLaws.{LastIsEnough}
use Rattle.sl_host_law.specs.Steps.SoundHosts.{IsSound}
use Rattle.sl_host_law.specs.Steps.StepFunction.{before_taking, effects_of, stepped}
use Rattle.sl_host_law.specs.Steps.StepsFollow.{StepComes, entry_at}
use Rattle.sl_host_state.specs.HeardInputs.{begun}
use Rattle.sl_host_state.specs.KeptState.{HostState}
use Rattle.sl_host_state.specs.NewHost.{IsOfProgram, new_host}
use Rattle.sl_host_state.specs.HostStands.{HostStands}
use Rattle.sl_run.specs.Lawful.{IsSetting}
use Rattle.sl_step_law.specs.Answers.{IsOfBytes}
use Rattle.sl_step_law.specs.ReadyHosts.{InputComes}
use Rattle.sl_trace.specs.Traces.{Setting, Trace}
use Rattle.sl_trace.specs.declared.command.Command.{Command}
use Rattle.sl_trace.specs.declared.input.Input.TheVariants.{Answer as Told, Exit, Line, Number, Spawned, Wake}
use Rattle.sl_trace.specs.declared.input.Input.{Input}
use Rattle.std.specs.Prelude.{Ok, [], ℕ, ◌∷◌, ◌≡◌}

-- What a read gives are bytes; and where a line sets a value, of those that its holder set before the last is enough.
abbrev pub IsPlainInput : Input → HostState → Step → Type 0
IsPlainInput (Line text) h x = (c : Command) → h.config.read text ≡ Ok c → LastIsEnough h x c
IsPlainInput (Told n a) h x = IsOfBytes a
IsPlainInput (Number text) h x = Unit {0}
IsPlainInput (Exit p) h x = Unit {0}
IsPlainInput (Spawned p ok) h x = Unit {0}
IsPlainInput Wake h x = Unit {0}

-- An input that may come is one of the host that has come to it.
abbrev pub MayCome : ℕ → Input → HostState → Setting → Trace → Type 0
MayCome now i h st es = InputComes now i h st es × IsPlainInput i (before_taking (begun now h)) (before_input (begin_step st es now))

-- Then the step is taken: its effects are those that are due, the host stands for the longer trace, and is sound.
pub record StepsAreTaken : Type 0 where
  pub comes : (now : ℕ) (i : Input) (h : HostState) (st : Setting) (es : Trace) → MayCome now i h st es → StepComes now i h st es
  pub effects : (now : ℕ) (i : Input) (h : HostState) (st : Setting) (es : Trace) → MayCome now i h st es → effects_of now i h ≡ due st es now i
  pub stands : (now : ℕ) (i : Input) (h : HostState) (st : Setting) (es : Trace) → MayCome now i h st es → HostStands (stepped now i h) st (entry_at st es now i ∷ es)
  pub sound : (now : ℕ) (i : Input) (h : HostState) (st : Setting) (es : Trace) → MayCome now i h st es → IsSound (stepped now i h)

-- A new host stands for no step and is sound, of each setting that a daemon may be made of and whose layout is the program's.
pub record HostsBegin : Type 0 where
  pub stands : (st : Setting) → IsSetting st → IsOfProgram st.layout → HostStands (new_host st) st []
  pub sound : (st : Setting) → IsSetting st → IsOfProgram st.layout → IsSound (new_host st)
