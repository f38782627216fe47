-- Runs that are drawn: what is left of one, from a moment of it on.
--
-- A run is shown to be drawn from its end: whatever is drawn behind an event is drawn before it, with the event in front. So a program that goes from
-- event to event never has to know the run that it makes.
use Rattle.sl_report.specs.GeneratedSchedules.{IsGenerated, next_state}
use Rattle.sl_report.specs.Reports.{Counts, run_counts}
use Rattle.sl_run.specs.Runs.{AfterEachFront, Happening, IsRun, world_after}
use Rattle.sl_run.specs.Worlds.{World}
use Rattle.std.specs.Prelude.{List, length, ℕ, ◌≡◌}

-- The state of the draws behind an event.
abbrev pub state_behind : ℕ → ℕ
state_behind x = next_state (next_state (next_state x))

-- So many events are drawn from here on: they happen one after another, at each moment this holds of the world, and at the end these are counted.
pub record IsDrawn (P : World → Type 0) (hosts left number : ℕ) (w : World) (x : ℕ) (k last : Counts) : Type 0 where
  pub run : List Happening
  pub counted : length run ≡ left
  pub generated : IsGenerated number hosts w x run
  pub is_run : IsRun w run
  pub fronts : AfterEachFront run (λ now. P (world_after w now))
  pub counts : run_counts w k run ≡ last

-- Whatever is drawn behind is drawn before.
abbrev pub DrawsBack : (World → Type 0) → ℕ → ℕ → ℕ → World → ℕ → Counts → ℕ → ℕ → World → ℕ → Counts → Type 0
DrawsBack P hosts left number w x k rest next v y n = (last : Counts) → IsDrawn P hosts rest next v y n last → IsDrawn P hosts left number w x k last
