-- Renewals on a wake, and what comes last in a step, as passes.
use Rattle.sl_due.specs.DueWake.{finish, for_sessions, renew_on_wake}
use Rattle.sl_due.specs.Steps.{Step}
use Rattle.sl_host_state.specs.KeptState.{HostState}
use Rattle.sl_host_state.specs.HostStands.{Stands}
use Rattle.sl_host_law.specs.Steps.Passes.{for_members}
use Rattle.sl_host_law.specs.Steps.SoundHosts.{IsSound}
use Rattle.sl_host_law.specs.StepParts.Ends.{finishing, renewing_in}
use Rattle.sl_trace.specs.declared.input.Input.{Input}

-- The state follows the step.
pub record EndingsFollow : Type 0 where
  pub renewals : (i : Input) (h : HostState) (x : Step) → Stands i h x → Stands i (for_members renewing_in h) (for_sessions renew_on_wake x)
  pub finish : (i : Input) (h : HostState) (x : Step) → IsSound h → Stands i h x → Stands i (for_members finishing h) (finish x)
  pub sound : (i : Input) (h : HostState) (x : Step) → IsSound h → Stands i h x → IsSound (for_members finishing h)
