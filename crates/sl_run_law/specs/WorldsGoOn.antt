-- What an event, and a run, leaves of a world.
use Rattle.sl_run.specs.EventChanges.{happens}
use Rattle.sl_run.specs.Runs.{Happening, world_after}
use Rattle.sl_run.specs.Worlds.{World}
use Rattle.sl_run.specs.declared.event.Event.TheVariants.{Pass}
use Rattle.sl_run.specs.declared.event.Event.{Event}
use Rattle.sl_trace.specs.declared.effects.Effects.{Effects}
use Rattle.std.specs.Prelude.{List, length, [], ℕ, ◌++◌, ◌+◌, ◌∷◌, ◌≡◌}

-- How much time an event takes.
abbrev pub time_of : Event → ℕ
time_of (Pass d growths) = d
time_of e = 0

-- .. and a run.
abbrev pub time_of_run : List Happening → ℕ
time_of_run [] = 0
time_of_run (x ∷ xs) = time_of x.0 + time_of_run xs

-- How many steps a run makes: an event is one, and each of its effects.
abbrev pub steps_of_run : List Happening → ℕ
steps_of_run [] = 0
steps_of_run (x ∷ xs) = (1 + length x.1) + steps_of_run xs

-- A list grows in front.
pub record Grown {A : Type 0} (before after : List A) : Type 0 where
  pub newer : List A
  pub same : after ≡ newer ++ before

-- A world after this time and so many steps.
pub record Goes (time steps : ℕ) (w v : World) : Type 0 where
  pub program : v.program ≡ w.program
  pub header : v.header ≡ w.header
  pub layout : v.layout ≡ w.layout
  pub machines : length v.machines ≡ length w.machines
  pub moment : v.moment ≡ w.moment + time
  pub step : v.step ≡ w.step + steps
  pub landings : Grown w.landings v.landings

-- An event takes its time, and one step and one for each of its effects.
abbrev pub WorldsGoOn : Type 0
WorldsGoOn = (w : World) (e : Event) (fxs : List Effects) → Goes (time_of e) (1 + length fxs) w (happens w e fxs)

-- So does a run, all in all.
abbrev pub RunsGoOn : Type 0
RunsGoOn = (w : World) (xs : List Happening) → Goes (time_of_run xs) (steps_of_run xs) w (world_after w xs)
