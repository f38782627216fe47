-- The run in which each daemon does what is due: it computes.
use Rattle.sl_due.specs.Due.{due}
use Rattle.sl_run.specs.EventChanges.{happens}
use Rattle.sl_run.specs.Inputs.{input_of, machine_of}
use Rattle.sl_run.specs.Refusals.{refusal_of}
use Rattle.sl_run.specs.Runs.{Happening, own_effects_of}
use Rattle.sl_run.specs.Worlds.{Machine, World, machine_at, reading_now}
use Rattle.sl_run.specs.declared.event.Event.{Event}
use Rattle.sl_trace.specs.Traces.{no_effects}
use Rattle.sl_trace.specs.declared.effects.Effects.{Effects}
use Rattle.sl_trace.specs.declared.input.Input.{Input}
use Rattle.std.specs.Option.{option_map_or}
use Rattle.std.specs.Prelude.{List, None, Some, [], ◌∷◌}

-- What is due of the daemon of a machine at an input.
abbrev pub due_at : Machine → Input → Effects
due_at a i = option_map_or (λ d. due d.setting d.trace (reading_now a) i) a.daemon no_effects

-- The effects of an event's steps, each daemon doing what is due.
abbrev pub effects_of : World → Event → List Effects
effects_of w e =
    elim (input_of w e) [
      | None ↦ own_effects_of w e ∷ []
      | Some i ↦ option_map_or (λ a. due_at a i) (machine_at w (machine_of e)) no_effects ∷ []
    ]

-- The run of these events.
abbrev pub due_run : World → List Event → List Happening
due_run w [] = []
due_run w (e ∷ es) = let fxs : List Effects = effects_of w e in (e, fxs) ∷ due_run (happens w e fxs) es

-- The events up to the first that may not happen.
abbrev pub allowed : World → List Event → List Event
allowed w [] = []
allowed w (e ∷ es) = elim (refusal_of w e) [ Some r ↦ [] | None ↦ e ∷ allowed (happens w e (effects_of w e)) es ]
