-- One more start of a child.
use Rattle.sl_due.specs.Steps.{add_start}
use Rattle.sl_host_state.specs.KeptState.{HostState}
use Rattle.sl_host_state.specs.MadeEffects.{with_start}
use Rattle.sl_host_state.specs.HostStands.{Takes}
use Rattle.sl_trace.specs.Traces.{first_child}
use Rattle.sl_trace.specs.declared.effects.Start.{Start}
use Rattle.std.specs.List.{list_any}
use Rattle.std.specs.Option.{option_map_or}
use Rattle.std.specs.Prelude.{IsTrue, true, ◌+◌, ◌==◌, ◌≡◌}

-- The child has the next number, and its job, if it has one, runs.
pub record StartFits (h : HostState) (s : Start) : Type 0 where
  pub number : s.process ≡ first_child + h.started
  pub job : IsTrue (option_map_or (λ n. list_any (λ j. j.number == n) h.jobs) s.job true)

-- Then it is taken.
abbrev pub StartsAreTaken : Type 0
StartsAreTaken = (h : HostState) (s : Start) → StartFits h s → Takes h (with_start s h) (add_start s)
