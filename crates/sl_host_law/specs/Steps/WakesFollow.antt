-- A wake as three passes: joinings, renewals, settlings.
use Rattle.sl_due.specs.DueWake.{on_wake}
use Rattle.sl_due.specs.Steps.{Step}
use Rattle.sl_host_state.specs.KeptState.{HostState}
use Rattle.sl_host_state.specs.HostStands.{Stands}
use Rattle.sl_host_law.specs.Steps.SoundHosts.{IsSound}
use Rattle.sl_host_law.specs.Steps.WakePasses.{waking}
use Rattle.sl_trace.specs.declared.input.Input.TheVariants.{Wake}

-- The state follows the step, and is sound.
pub record WakesFollow : Type 0 where
  pub stands : (h : HostState) (x : Step) → IsSound h → Stands Wake h x → Stands Wake (waking h) (on_wake x)
  pub sound : (h : HostState) (x : Step) → IsSound h → Stands Wake h x → IsSound (waking h)
