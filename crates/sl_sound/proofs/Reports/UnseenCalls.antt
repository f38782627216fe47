-- What isn't seen of machines while calls go on.
use Rattle.sl_run.specs.EventChanges.{add_landing, change_call, complete, fated, flight_at, land_whole, sampled_more, write_bytes}
use Rattle.sl_run.specs.Refusals.{sectors_left}
use Rattle.sl_run.specs.Worlds.{Course, Landed, Machine, World, change_machine, is_in_flight, is_write_course, machine_at}
use Rattle.sl_words.proofs.CaseLaws.{none_some, some_value}
use Rattle.std.proofs.Common.{ap, refl, sym, ◌∙◌}
use Rattle.std.specs.Option.{option_map_or}
use Rattle.std.specs.Prelude.{Bool, List, None, Option, Some, false, if◌then◌else◌, map, slice_get, slice_set, suc, true, zero, [], ℕ, ◌-◌, ◌==◌, ◌∷◌, ◌≡◌}

-- ---- what is seen of machines

-- Of each machine.
abbrev pub seen_of : {X : Type 0} → (Machine → X) → World → List X
seen_of g w = map g w.machines

-- It isn't seen how calls go on.
abbrev pub IgnoresCalls : {X : Type 0} → (Machine → X) → Type 0
IgnoresCalls g = (c : ℕ) (f : Course → Course) (b : Machine) → g (change_call c f b) ≡ g b

-- ---- one machine changes

set_keeps : {X : Type 0} (g : Machine → X) (f : Machine → Machine) (i : ℕ) (ms : List Machine) (a : Machine) → ((b : Machine) → g (f b) ≡ g b) → slice_get ms i ≡ Some a
    → map g (slice_set ms i (f a)) ≡ map g ms
set_keeps g f i [] a same h = refl
set_keeps g f zero (m ∷ ms) a same h = ap (λ xs. xs ∷ map g ms) (same a ∙ ap g (sym (some_value m a h)))
set_keeps g f (suc i) (m ∷ ms) a same h = ap (λ xs. g m ∷ xs) (set_keeps g f i ms a same h)

is_placed : (b : Bool) (o : Option Machine) (a : Machine) → (if b then None else o) ≡ Some a → o ≡ Some a
is_placed true o a h = absurd (none_some a h)
is_placed false o a h = h

change_by : {X : Type 0} (g : Machine → X) (m : ℕ) (f : Machine → Machine) (w : World) (o : Option Machine) → machine_at w m ≡ o → ((b : Machine) → g (f b) ≡ g b)
    → seen_of g (elim o as (λ x. World) [ None ↦ w | Some a ↦ record w { machines = slice_set w.machines (m - 1) (f a) } ]) ≡ seen_of g w
change_by g m f w None is same = refl
change_by g m f w (Some a) is same = set_keeps g f (m - 1) w.machines a same (is_placed (m == 0) (slice_get w.machines (m - 1)) a is)

-- A change of one machine that isn't seen.
pub change_keeps : {X : Type 0} (g : Machine → X) (m : ℕ) (f : Machine → Machine) (w : World) → ((b : Machine) → g (f b) ≡ g b)
    → seen_of g (change_machine m f w) ≡ seen_of g w
change_keeps g m f w same = change_by g m f w (machine_at w m) refl same

-- ---- landings

land_by : {X : Type 0} (g : Machine → X) → IgnoresCalls g → (m c : ℕ) (w : World) (o : Option Course)
    → seen_of g (option_map_or (λ (f : Course). change_machine m (change_call c (fated Landed)) (add_landing m f.call true (write_bytes w f.call) w)) o w) ≡ seen_of g w
land_by g still m c w None = refl
land_by g still m c w (Some f) =
    change_keeps g m (change_call c (fated Landed)) (add_landing m f.call true (write_bytes w f.call) w) (still c (fated Landed))

if_lands : {X : Type 0} (g : Machine → X) → IgnoresCalls g → (m c : ℕ) (w : World) (t : Bool)
    → seen_of g (elim t as (λ x. World) [ true ↦ land_whole m c w | false ↦ w ]) ≡ seen_of g w
if_lands g still m c w true = land_by g still m c w (flight_at w m c)
if_lands g still m c w false = refl

done_by : {X : Type 0} (g : Machine → X) → IgnoresCalls g → (m c : ℕ) (w : World) (f : Course) (writes : Bool)
    → seen_of g (elim writes as (λ x. World) [
      | false ↦ change_machine m (change_call c (sampled_more w (sectors_left f))) w
      | true ↦ elim (is_in_flight f.fate) as (λ x. World) [ true ↦ land_whole m c w | false ↦ w ]
    ]) ≡ seen_of g w
done_by g still m c w f false = change_keeps g m (change_call c (sampled_more w (sectors_left f))) w (still c (sampled_more w (sectors_left f)))
done_by g still m c w f true = if_lands g still m c w (is_in_flight f.fate)

complete_by : {X : Type 0} (g : Machine → X) → IgnoresCalls g → (m c : ℕ) (w : World) (o : Option Course)
    → seen_of g (elim o as (λ x. World) [
      | None ↦ w
      | Some f ↦ elim (is_write_course f) as (λ x. World) [
        | false ↦ change_machine m (change_call c (sampled_more w (sectors_left f))) w
        | true ↦ elim (is_in_flight f.fate) as (λ x. World) [ true ↦ land_whole m c w | false ↦ w ]
      ]
    ]) ≡ seen_of g w
complete_by g still m c w None = refl
complete_by g still m c w (Some f) = done_by g still m c w f (is_write_course f)

-- A call that is done whole.
pub complete_keeps : {X : Type 0} (g : Machine → X) → IgnoresCalls g → (m c : ℕ) (w : World) → seen_of g (complete m c w) ≡ seen_of g w
complete_keeps g still m c w = complete_by g still m c w (flight_at w m c)
