-- How the answers of calls go on.
use Rattle.sl_run.specs.EventChanges.{happens}
use Rattle.sl_run.specs.Runs.{Happening, world_after}
use Rattle.sl_run.specs.Worlds.{Course, Stamp, World}
use Rattle.sl_run.specs.declared.event.Event.{Event}
use Rattle.sl_run_law.specs.CoursesGoOn.{Tracks}
use Rattle.sl_run_law.specs.FatesStay.{DistinctAlong, EachDistinct}
use Rattle.sl_run_law.specs.Machines.{EachMachine}
use Rattle.sl_trace.specs.declared.effects.Effects.{Effects}
use Rattle.std.specs.Prelude.{List, Some, ◌≡◌}

-- What is answered stays so, with its answer.
pub record KeepsAnswer (c d : Course) : Type 0 where
  pub answered : (s : Stamp) → c.answered ≡ Some s → d.answered ≡ Some s
  pub done : (s : Stamp) → c.answered ≡ Some s → d.done ≡ c.done

abbrev pub AnswersStay : Type 0
AnswersStay = (w : World) (e : Event) (fxs : List Effects) → EachDistinct w → EachMachine (λ m. Tracks KeepsAnswer) w (happens w e fxs)

abbrev pub AnswersStayInRuns : Type 0
AnswersStayInRuns = (w : World) (xs : List Happening) → DistinctAlong w xs → EachMachine (λ m. Tracks KeepsAnswer) w (world_after w xs)
