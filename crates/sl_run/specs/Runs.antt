-- Runs: events, each with its effects, from the header's world on.
use Rattle.sl_run.specs.EventChanges.{happens, next_input, own_effects}
use Rattle.sl_run.specs.Inputs.{input_of, machine_of}
use Rattle.sl_run.specs.Refusals.{may_happen}
use Rattle.sl_run.specs.Worlds.{Daemon, World, daemons_on, machine_at}
use Rattle.sl_run.specs.declared.event.Event.{Event}
use Rattle.sl_trace.specs.Traces.{Setting, Trace, no_effects}
use Rattle.sl_trace.specs.declared.effects.Effects.{Effects}
use Rattle.std.specs.Option.{option_map_or}
use Rattle.std.specs.Prelude.{Contains, IsSome, IsTrue, List, None, Some, flat_map, length, take, [], ℕ, ◌++◌, ◌<◌, ◌∷◌, ◌≡◌, ◌≤◌}

-- An event with the effects of each of its steps.
abbrev pub Happening : Type 0
Happening = Event × List Effects

-- The world after these.
abbrev pub world_after : World → List Happening → World
world_after w [] = w
world_after w (x ∷ xs) = world_after (happens w x.0 x.1) xs

-- What the machine itself does where no daemon takes the event.
abbrev pub own_effects_of : World → Event → Effects
own_effects_of w e = option_map_or (own_effects w e) (machine_at w (machine_of e)) no_effects

-- The effects are as many as the event has steps; where no daemon takes it they are the machine's own.
abbrev pub HasSteps : World → Event → List Effects → Type 0
HasSteps w e fxs =
    elim (input_of w e) [
      | Some i ↦ (1 ≤ length fxs) × (next_input w e fxs ≡ None) × ((k : ℕ) → k < length fxs → IsSome (next_input w e (take k fxs)))
      | None ↦ fxs ≡ own_effects_of w e ∷ []
    ]

-- A run from this world: each event may happen, with its steps.
abbrev pub IsRun : World → List Happening → Type 0
IsRun w [] = Unit {0}
IsRun w (x ∷ xs) = IsTrue (may_happen w x.0) × HasSteps w x.0 x.1 × IsRun (happens w x.0 x.1) xs

-- Every daemon that ever ran in it.
abbrev pub daemons_of : World → List Daemon
daemons_of w = flat_map daemons_on w.machines

-- What is said of each of them.
abbrev pub EachDaemon : (Setting → Trace → Type 0) → World → Type 0
EachDaemon P w = (d : Daemon) → Contains (daemons_of w) d → P d.setting d.trace

-- What is said of the run up to each front, the empty one too.
abbrev pub AfterEachFront : List Happening → (List Happening → Type 0) → Type 0
AfterEachFront xs P = (now rest : List Happening) → xs ≡ now ++ rest → P now
