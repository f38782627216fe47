-- One event, from the world before it to the world after, and what each event keeps.
use Rattle.sl_run_law.proofs.Front.RunsFromFronts.{IsLast, last_event, run_keeps}
use Rattle.sl_run_law.proofs.Landing.OneArrival.{changed_landings}
use Rattle.sl_run.specs.EventChanges.{after_effects, after_step, first_change, next_step, take_step}
use Rattle.sl_run.specs.Inputs.{input_of, machine_of}
use Rattle.sl_run.specs.Runs.{Happening}
use Rattle.sl_run.specs.Safety.{LawfulRun, world_at}
use Rattle.sl_run.specs.Worlds.{Program, World, stamp_now, world_with}
use Rattle.sl_run.specs.declared.event.Event.{Event}
use Rattle.sl_run.specs.declared.header.Header.{Header}
use Rattle.sl_run_law.proofs.WorldsGoOn.{event_goes, first_goes}
use Rattle.sl_run_law.specs.WorldsGoOn.{Goes, time_of}
use Rattle.sl_trace.specs.declared.effects.Effects.{Effects}
use Rattle.sl_trace.specs.declared.input.Input.{Input}
use Rattle.std.proofs.Common.{arith, subst, sym}
use Rattle.std.specs.Prelude.{List, None, Option, Some, [], ℕ, ◌++◌, ◌<◌, ◌∷◌, ◌≡◌, ◌≤◌}

-- The world once the event has changed it, before the daemon's step.
abbrev pub world_first : World → Event → World
world_first w e = next_step (first_change e w)

-- The world after the event, with the effects of its step.
abbrev pub world_then : World → Event → Effects → World
world_then w e fx = take_step (machine_of e) (input_of w e) fx (world_first w e)

pub step_landings : (m : ℕ) (o : Option Input) (fx : Effects) (v : World) → (take_step m o fx v).landings ≡ v.landings
step_landings m None fx v = changed_landings m (λ a. after_effects (stamp_now v a) fx a) v
step_landings m (Some i) fx v = changed_landings m (λ a. after_step (stamp_now v a) i fx a) v

-- The event as a whole.
pub event_goes_on : (w : World) (e : Event) (fx : Effects) → Goes (time_of e) 2 w (world_then w e fx)
event_goes_on w e fx = event_goes w e (fx ∷ [])

-- The daemon's step comes after all that was before the event.
pub record IsLater (w v : World) : Type 0 where
  pub step : w.step < v.step
  pub moment : w.moment ≤ v.moment
  pub layout : v.layout ≡ w.layout

pub first_later : (w : World) (e : Event) → IsLater w (world_first w e)
first_later w e =
    let g = first_goes e w in
    record { step = omega (arith, g.step); moment = omega (arith, g.moment); layout = g.layout }

pub event_later : (w : World) (e : Event) (fx : Effects) → IsLater w (world_then w e fx)
event_later w e fx =
    let g = event_goes_on w e fx in
    record { step = omega (arith, g.step); moment = omega (arith, g.moment); layout = g.layout }

-- What holds at first, and is kept by each event of a lawful run, holds after each.
pub world_keeps : (Inv : World → Type 0) (p : Program) (h : Header) → Inv (world_with p h)
    → ((now : List Happening) (x : Happening) → LawfulRun p h (now ++ x ∷ []) → (l : IsLast p h now x) → Inv (world_at p h now)
    → Inv (world_then (world_at p h now) x.0 l.effects))
    → (xs : List Happening) → LawfulRun p h xs → Inv (world_at p h xs)
world_keeps Inv p h first next xs run =
    run_keeps p h (λ ys. Inv (world_at p h ys))
    (record { first = first; next = λ now x law so. let l = last_event p h now x law in subst Inv (sym l.after) (next now x law l so) }) xs run
