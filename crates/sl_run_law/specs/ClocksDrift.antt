-- How the clocks go.
use Rattle.sl_run.specs.EventChanges.{happens}
use Rattle.sl_run.specs.Refusals.{may_happen}
use Rattle.sl_run.specs.Runs.{Happening, IsRun, world_after}
use Rattle.sl_run.specs.Worlds.{Machine, World}
use Rattle.sl_run.specs.declared.event.Event.{Event}
use Rattle.sl_run_law.specs.WorldsGoOn.{time_of, time_of_run}
use Rattle.sl_run_law.specs.Machines.{EachMachine}
use Rattle.sl_trace.specs.declared.effects.Effects.{Effects}
use Rattle.std.specs.Prelude.{IsTrue, List, length, ℕ, ◌*◌, ◌+◌, ◌-◌, ◌≡◌, ◌≤◌}

-- A machine after this time: its clock has grown within the drift.
pub record Drifts (rho time : ℕ) (a b : Machine) : Type 0 where
  pub least : a.clock + (1000 - rho) * time ≤ b.clock
  pub most : b.clock ≤ a.clock + (1000 + rho) * time

-- The header counts the machines; no event changes either.
abbrev pub IsCounted : World → Type 0
IsCounted w = length w.machines ≡ w.header.machines

-- Each clock grows within the drift of the time that the event takes.
abbrev pub ClocksDrift : Type 0
ClocksDrift =
    (w : World) (e : Event) (fxs : List Effects) → IsCounted w → IsTrue (may_happen w e)
    → EachMachine (λ m. Drifts w.header.timing.rho (time_of e)) w (happens w e fxs)

-- .. and of the time that a run takes.
abbrev pub ClocksDriftInRuns : Type 0
ClocksDriftInRuns =
    (w : World) (xs : List Happening) → IsCounted w → IsRun w xs → EachMachine (λ m. Drifts w.header.timing.rho (time_of_run xs)) w (world_after w xs)
