-- A host that has come to its input, with all that is known of the steps before it and of its own so far.
use Rattle.sl_due.specs.Due.{before_input}
use Rattle.sl_due.specs.Steps.{Step, begin_step}
use Rattle.sl_due_law.specs.LawfulTraces.CarriedFacts.{Kept}
use Rattle.sl_host_law.specs.Steps.SoundHosts.{IsEarly, IsSound}
use Rattle.sl_host_law.specs.Steps.StepFunction.{before_taking}
use Rattle.sl_host_law.specs.Steps.StepsFollow.{entry_at}
use Rattle.sl_host_state.specs.HeardInputs.{begun}
use Rattle.sl_host_state.specs.KeptState.{HostState}
use Rattle.sl_host_state.specs.HostStands.{HostStands, Stands}
use Rattle.sl_run.specs.Lawful.{IsSetting}
use Rattle.sl_trace.specs.Traces.{FollowsTrace, Setting, Trace}
use Rattle.sl_trace.specs.declared.input.Input.TheVariants.{Wake}
use Rattle.sl_trace.specs.declared.input.Input.{Input}
use Rattle.std.specs.Prelude.{ℕ}

-- A host that stands for the steps so far, and is sound, at an input that follows them.
pub record InputComes (now : ℕ) (i : Input) (h : HostState) (st : Setting) (es : Trace) : Type 0 where
  pub setting : IsSetting st
  pub stands : HostStands h st es
  pub sound : IsSound h
  pub follows : FollowsTrace st es (entry_at st es now i)

-- It has done what is due before its input.
pub record IsReady (h : HostState) (x : Step) : Type 0 where
  pub stands : Stands Wake h x
  pub early : IsEarly h
  pub sound : IsSound h
  pub kept : Kept x

abbrev pub HostsAreReady : Type 0
HostsAreReady =
    (now : ℕ) (i : Input) (h : HostState) (st : Setting) (es : Trace) → InputComes now i h st es
    → IsReady (before_taking (begun now h)) (before_input (begin_step st es now))
