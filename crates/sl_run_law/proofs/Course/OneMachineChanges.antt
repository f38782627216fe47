-- What a change of one machine makes of that machine.
use Rattle.sl_words.proofs.Lists.{set_here}
use Rattle.sl_words.proofs.Options.{else_some}
use Rattle.sl_run.specs.EventChanges.{change_call, first_change, flight_at, land_whole, sampled_more}
use Rattle.sl_run.specs.Refusals.{sectors_left}
use Rattle.sl_run.specs.Worlds.{Course, Machine, World, change_machine, flight_of, is_in_flight, is_write_course, machine_at}
use Rattle.sl_run.specs.declared.event.Event.TheVariants.{AnswerCall, Do}
use Rattle.sl_run_law.proofs.MachineWalk.{index}
use Rattle.std.proofs.Common.{ap, refl, ◌∙◌}
use Rattle.std.specs.Prelude.{Bool, None, Option, Some, false, option_and_then, slice_get, slice_set, true, ℕ, ◌-◌, ◌==◌, ◌≡◌}

-- The machine that changes.
pub changed_here : (w : World) (m : ℕ) (f : Machine → Machine) (a : Machine) → machine_at w m ≡ Some a → machine_at (change_machine m f w) m ≡ Some (f a)
changed_here w m f a at =
    let p = index w m a at in
    ap (λ o. machine_at (elim o as (λ x. World) [ None ↦ w | Some y ↦ record w { machines = slice_set w.machines (m - 1) (f y) } ]) m) at
    ∙ else_some (m == 0) (slice_get (slice_set w.machines (m - 1) (f a)) (m - 1)) (f a) p.0 (set_here w.machines (m - 1) (f a) a p.1)

-- A read that is completed has sampled its last sectors.
pub read_completed : (w : World) (m c : ℕ) (a : Machine) (f : Course) → machine_at w m ≡ Some a → flight_of a c ≡ Some f → is_write_course f ≡ false
    → machine_at (first_change (Do m c) w) m ≡ Some (change_call c (sampled_more w (sectors_left f)) a)
unfolding first_change
read_completed w m c a f at flight reads =
    let there : flight_at w m c ≡ Some f = ap (λ (o : Option Machine). option_and_then (λ b. flight_of b c) o) at ∙ flight in
    let now : Course → Bool → World = λ g t.
    elim t as (λ x. World) [
      | false ↦ change_machine m (change_call c (sampled_more w (sectors_left g))) w
      | true ↦ elim (is_in_flight g.fate) as (λ x. World) [ true ↦ land_whole m c w | false ↦ w ]
    ] in
    ap (λ o. machine_at (elim o as (λ x. World) [ None ↦ w | Some g ↦ now g (is_write_course g) ]) m) there
    ∙ ap (λ t. machine_at (now f t) m) reads
    ∙ changed_here w m (change_call c (sampled_more w (sectors_left f))) a at

-- An answer changes nothing before the step.
pub answer_changes_none : (w : World) (m c : ℕ) (ok : Bool) → first_change (AnswerCall m c ok) w ≡ w
unfolding first_change
answer_changes_none w m c ok = refl
