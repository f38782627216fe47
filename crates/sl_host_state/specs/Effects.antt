-- What a signal, an end and a grant do to what a host keeps: none of them touches a call, a session or a job.
use Rattle.sl_due.specs.Steps.{add_end, add_grant, add_signal}
use Rattle.sl_host_state.specs.KeptState.{HostState}
use Rattle.sl_host_state.specs.MadeEffects.{with_end, with_grant, with_signal}
use Rattle.sl_host_state.specs.HostStands.{Takes}
use Rattle.sl_trace.specs.declared.effects.End.{End}
use Rattle.sl_trace.specs.declared.effects.Grant.{Grant}
use Rattle.sl_trace.specs.declared.effects.Signal.{Signal}
use Rattle.std.specs.Prelude.{[], ℕ, ◌≡◌}

-- The state follows the step.
pub record EffectsAreTaken : Type 0 where
  pub signal : (p : ℕ) (s : Signal) (h : HostState) → Takes h (with_signal p s h) (add_signal p s)
  pub grant : (g : Grant) (h : HostState) → Takes h (with_grant g h) (add_grant g)
  -- a step ends before it grants
  pub ended : (e : End) (h : HostState) → h.made.grants ≡ [] → Takes h (with_end e h) (add_end e)
