-- A step begins: recovery begins of all whose time has come. Below the reading that is kept nothing is due before the input, so the
-- step is as it began.
use Rattle.sl_due.specs.Due.{before_input}
use Rattle.sl_due.specs.Steps.{begin_step}
use Rattle.sl_host_state.specs.HeardInputs.{begun, counted, quiet_to}
use Rattle.sl_host_state.specs.KeptState.{HostState}
use Rattle.sl_host_state.specs.HostStands.{HostStands, IsQuiet, Stands, Takes}
use Rattle.sl_trace.specs.Traces.{Setting, Trace}
use Rattle.sl_trace.specs.declared.input.Input.TheVariants.{Wake}
use Rattle.std.specs.Prelude.{ℕ, ◌<◌, ◌≡◌, ◌≤◌}

-- A step that begins where nobody's recovery does.
abbrev pub begun_quietly : ℕ → HostState → HostState
begun_quietly now h = counted now h

-- How a step begins.
pub record StepsBegin : Type 0 where
  pub begins : (h : HostState) (st : Setting) (es : Trace) (now : ℕ) → h.reading ≤ now → HostStands h st es → Stands Wake (begun now h) (begin_step st es now)
  -- below the reading kept
  pub quietly : (h : HostState) (now : ℕ) → now < h.quiet_until → IsQuiet h → begun now h ≡ begun_quietly now h
  pub nothing : (h : HostState) (st : Setting) (es : Trace) (now : ℕ) → h.reading ≤ now → now < h.quiet_until → HostStands h st es
      → before_input (begin_step st es now) ≡ begin_step st es now
  -- it may be worked out anew at any time
  pub worked_out : (h : HostState) (now : ℕ) → IsQuiet (quiet_to now h) → Takes h (quiet_to now h) (λ x. x)
