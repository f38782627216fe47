-- What stands whatever it is: how early a host looks again for what is due by time.
use Rattle.sl_due.specs.Steps.{Step}
use Rattle.sl_host_state.specs.HeardInputs.{quiet_to}
use Rattle.sl_host_state.specs.KeptState.{HostState}
use Rattle.sl_host_state.specs.HostStands.{HostStands, Stands}
use Rattle.sl_trace.specs.Traces.{Setting, Trace}
use Rattle.sl_trace.specs.declared.input.Input.{Input}
use Rattle.std.specs.Prelude.{ℕ, ◌≤◌}

-- It stands, in a step and between two, where the moment is none later than before.
pub record EarlierIsQuiet : Type 0 where
  pub in_step : (i : Input) (h : HostState) (x : Step) (until : ℕ) → until ≤ h.quiet_until → Stands i h x → Stands i (quiet_to until h) x
  pub between : (h : HostState) (st : Setting) (es : Trace) (until : ℕ) → until ≤ h.quiet_until → HostStands h st es → HostStands (quiet_to until h) st es
