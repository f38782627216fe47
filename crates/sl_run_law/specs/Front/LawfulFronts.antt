-- What a lawful run is at each front, and what one event of it is.
use Rattle.sl_run.specs.Inputs.{input_of}
use Rattle.sl_run.specs.Runs.{Happening, HasSteps, own_effects_of}
use Rattle.sl_run.specs.Safety.{LawfulRun}
use Rattle.sl_run.specs.Worlds.{Program, World}
use Rattle.sl_run.specs.declared.event.Event.{Event}
use Rattle.sl_run.specs.declared.header.Header.{Header}
use Rattle.sl_trace.specs.declared.effects.Effects.{Effects}
use Rattle.std.specs.Prelude.{List, None, [], ◌++◌, ◌∷◌, ◌≡◌}

-- Each front of a lawful run is one: the traces of its daemons are fronts of their later traces.
abbrev pub FrontsAreLawful : Type 0
FrontsAreLawful = (p : Program) (h : Header) (now rest : List Happening) → LawfulRun p h (now ++ rest) → LawfulRun p h now

-- The one step of an event: a daemon's, or what the machine itself does.
pub record HasOneStep (w : World) (e : Event) (fxs : List Effects) : Type 0 where
  pub effects : Effects
  pub one : fxs ≡ effects ∷ []
  pub own : input_of w e ≡ None → effects ≡ own_effects_of w e

-- Each event of a run has one.
abbrev pub EventsHaveOneStep : Type 0
EventsHaveOneStep = (w : World) (e : Event) (fxs : List Effects) → HasSteps w e fxs → HasOneStep w e fxs
