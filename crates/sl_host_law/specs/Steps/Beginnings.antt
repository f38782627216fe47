-- A step up to its input.
use Rattle.sl_due.specs.Due.{before_input}
use Rattle.sl_due.specs.Steps.{begin_step}
use Rattle.sl_host_state.specs.HeardInputs.{begun}
use Rattle.sl_host_state.specs.KeptState.{HostState}
use Rattle.sl_host_state.specs.HostStands.{HostStands, Stands}
use Rattle.sl_host_law.specs.Steps.SoundHosts.{IsEarly, NamesApart}
use Rattle.sl_host_law.specs.Steps.StepFunction.{before_taking}
use Rattle.sl_trace.specs.Traces.{Setting, Trace}
use Rattle.sl_trace.specs.declared.input.Input.TheVariants.{Wake}
use Rattle.std.specs.Prelude.{ℕ, ◌≤◌}

-- The state follows the step, and has come to its input.
pub record BeginningsFollow : Type 0 where
  pub stands : (h : HostState) (st : Setting) (es : Trace) (now : ℕ) → h.reading ≤ now → NamesApart h → HostStands h st es
      → Stands Wake (before_taking (begun now h)) (before_input (begin_step st es now))
  pub early : (h : HostState) (st : Setting) (es : Trace) (now : ℕ) → h.reading ≤ now → NamesApart h → HostStands h st es → IsEarly (before_taking (begun now h))
