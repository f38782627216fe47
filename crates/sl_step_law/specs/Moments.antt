-- The moments of a step at which its parts begin, and what is known there: the host stands for the step so far, is sound, and all is known that each act keeps.
use Rattle.sl_due.specs.Due.{before_input, due_step}
use Rattle.sl_due.specs.DueInputs.{take_input}
use Rattle.sl_due.specs.DueWake.{is_wake, on_wake}
use Rattle.sl_due.specs.Steps.{Step, begin_step, when, with_input}
use Rattle.sl_due_law.specs.LawfulTraces.CarriedFacts.{Kept}
use Rattle.sl_host_law.specs.Replies.Answers.{FitsCall, IsOpen}
use Rattle.sl_host_law.specs.Steps.Inputs.{taking}
use Rattle.sl_host_law.specs.Steps.SoundHosts.{IsSound}
use Rattle.sl_host_law.specs.Steps.StepFunction.{before_taking, stepping}
use Rattle.sl_host_law.specs.Steps.WakePasses.{waking}
use Rattle.sl_host_state.specs.HeardInputs.{begun, heard_answer}
use Rattle.sl_host_state.specs.KeptState.{HostState}
use Rattle.sl_host_state.specs.HostStands.{Stands}
use Rattle.sl_host_state.specs.declared.kept_parts.OpenCall.{OpenCall}
use Rattle.sl_step_law.specs.ReadyHosts.{InputComes, IsReady}
use Rattle.sl_step_law.specs.CallsStand.{CallsStand}
use Rattle.sl_step_law.specs.StepsAreTaken.{MayCome}
use Rattle.sl_trace.specs.Traces.{Setting, Trace, is_expected}
use Rattle.sl_trace.specs.declared.input.Answer.{Answer}
use Rattle.sl_trace.specs.declared.input.Input.TheVariants.{Answer as Told, Wake}
use Rattle.sl_trace.specs.declared.input.Input.{Input}
use Rattle.std.specs.Prelude.{cond, true, ℕ, ◌≡◌}

pub record IsMoment (i : Input) (h : HostState) (x : Step) : Type 0 where
  pub stands : Stands i h x
  pub sound : IsSound h
  pub kept : Kept x
  pub calls : CallsStand x

-- The host once its input is taken, and the step that it stands for.
abbrev pub taken_host : ℕ → Input → HostState → HostState
taken_host now i h = taking i (before_taking (begun now h))

abbrev pub taken_step : ℕ → Input → Setting → Trace → Step
taken_step now i st es = take_input i (before_input (begin_step st es now))

pub record MomentsAreKnown : Type 0 where
  -- a host that has come to its input
  pub ready : (h : HostState) (x : Step) → IsReady h x → IsMoment Wake h x
  pub arrived : (now : ℕ) (i : Input) (h : HostState) (st : Setting) (es : Trace) → InputComes now i h st es
      → IsMoment Wake (before_taking (begun now h)) (before_input (begin_step st es now))
  -- it has heard an answer, and nothing more
  pub heard : (h : HostState) (x : Step) (number : ℕ) (c : OpenCall) (a : Answer) → IsReady h x → is_expected x.setting x.past (Told number a) ≡ true → IsOpen h number c
      → FitsCall h.config.layout a c → IsMoment (Told number a) (heard_answer number a h) (with_input (Told number a) x)
  -- its input is taken
  pub taken : (now : ℕ) (i : Input) (h : HostState) (st : Setting) (es : Trace) → MayCome now i h st es → IsMoment i (taken_host now i h) (taken_step now i st es)
  -- what is due by time is done, where the input is a wake
  pub woken : (now : ℕ) (i : Input) (h : HostState) (st : Setting) (es : Trace) → MayCome now i h st es
      → IsMoment i (cond (is_wake i) (waking (taken_host now i h)) (taken_host now i h)) (when (is_wake i) on_wake (taken_step now i st es))
  pub wakes : (now : ℕ) (h : HostState) (st : Setting) (es : Trace) → MayCome now Wake h st es
      → IsMoment Wake (waking (taken_host now Wake h)) (on_wake (taken_step now Wake st es))
  -- all is done
  pub ended : (now : ℕ) (i : Input) (h : HostState) (st : Setting) (es : Trace) → MayCome now i h st es → IsMoment i (stepping now i h) (due_step st es now i)
