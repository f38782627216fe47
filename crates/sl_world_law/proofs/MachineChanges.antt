-- One machine changes, in a world and in what is kept of it.
use Rattle.sl_world_state.specs.KeptWorld.{KeptState, MachineState, change_machine_in}
use Rattle.sl_world_state.specs.ShownWorlds.{Tells, disks_of, shown}
use Rattle.sl_world_law.proofs.Lookups.{machine_place, machine_shown}
use Rattle.sl_run.specs.EventChanges.{next_step}
use Rattle.sl_run.specs.Worlds.{Daemon, Machine, World, change_machine, daemons_on, machine_at}
use Rattle.sl_words.proofs.CaseLaws.{none_some, some_value}
use Rattle.std.proofs.Common.{ap, ap₂, refl, subst, suc, sym, zero, ◌∙◌}
use Rattle.std.proofs.lemmas.List.{map-set}
use Rattle.std.specs.List.{list_any}
use Rattle.std.specs.Prelude.{Bool, List, None, Option, Some, bytes_eq, false, flat_map, map, option_map, slice_get, slice_set, true, [], ℕ, ◌++◌, ◌-◌, ◌∷◌, ◌≡◌, ◌||◌}

-- The names of a machine's daemons.
abbrev pub names_on : Machine → List (List ℕ)
names_on a = map (λ (d : Daemon). d.setting.name) (daemons_on a)

-- ---- tests of lists

any_append : {A : Type 0} (p : A → Bool) (xs ys : List A) → list_any p (xs ++ ys) ≡ (list_any p xs || list_any p ys)
any_append p [] ys = refl
any_append p (x ∷ xs) ys = ap (λ b. p x || b) (any_append p xs ys) ∙ or_turned (p x) (list_any p xs) (list_any p ys)
  where
    or_turned : (a b c : Bool) → (a || (b || c)) ≡ (a || b || c)
    or_turned true b c = refl
    or_turned false b c = refl

or_swapped : (a b c : Bool) → (a || (b || c)) ≡ (b || (a || c))
or_swapped true true c = refl
or_swapped true false c = refl
or_swapped false b c = refl

or_nested : (a b c : Bool) → ((a || b) || c) ≡ (a || (b || c))
or_nested true b c = refl
or_nested false b c = refl

-- One of several lists has some more elements.
pub any_set : {A B : Type 0} (p : B → Bool) (f : A → List B) (more : Bool) (xs : List A) (i : ℕ) (x y : A) → slice_get xs i ≡ Some x
    → list_any p (f y) ≡ (more || list_any p (f x)) → list_any p (flat_map f (slice_set xs i y)) ≡ (more || list_any p (flat_map f xs))
any_set p f more [] i x y at is = absurd (none_some x at)
any_set p f more (z ∷ xs) zero x y at is =
    any_append p (f y) (flat_map f xs) ∙ ap (λ b. b || list_any p (flat_map f xs)) (is ∙ ap (λ v. more || list_any p (f v)) (sym (some_value z x at)))
    ∙ or_nested more (list_any p (f z)) (list_any p (flat_map f xs)) ∙ ap (λ b. more || b) (sym (any_append p (f z) (flat_map f xs)))
any_set p f more (z ∷ xs) (suc i) x y at is =
    any_append p (f z) (flat_map f (slice_set xs i y)) ∙ ap (λ b. list_any p (f z) || b) (any_set p f more xs i x y at is)
    ∙ or_swapped (list_any p (f z)) more (list_any p (flat_map f xs)) ∙ ap (λ b. more || b) (sym (any_append p (f z) (flat_map f xs)))

-- ---- worlds

-- The machine at a place is another, with perhaps some names more.
pub tells_set : (k : KeptState) (w : World) → Tells k w → (i : ℕ) (a b : Machine) (s : MachineState) (ns : List (List ℕ)) → slice_get w.machines i ≡ Some a
    → shown w.header b ≡ s → ((name : List ℕ) → list_any (bytes_eq name) (names_on b) ≡ (list_any (bytes_eq name) ns || list_any (bytes_eq name) (names_on a)))
    → Tells (record k { machines = slice_set k.machines i s; names = ns ++ k.names }) (record w { machines = slice_set w.machines i b })
unfolding disks_of
tells_set k w t i a b s ns at shows named =
    record {
      header = t.header;
      layout = t.layout;
      moment = t.moment;
      machines = map-set (shown w.header) w.machines i b ∙ ap₂ (λ ms x. slice_set ms i x) t.machines shows;
      disks = t.disks;
      names = λ name.
          any_set (bytes_eq name) names_on (list_any (bytes_eq name) ns) w.machines i a b at (named name)
          ∙ ap (λ x. list_any (bytes_eq name) ns || x) (t.names name) ∙ sym (any_append (bytes_eq name) ns k.names);
    }

-- A machine changes as what is kept of it does.
pub tells_change : (k : KeptState) (w : World) → Tells k w → (m : ℕ) (f : Machine → Machine) (g : MachineState → MachineState)
    → ((a : Machine) → machine_at w m ≡ Some a → shown w.header (f a) ≡ g (shown w.header a))
    → ((a : Machine) (name : List ℕ) → machine_at w m ≡ Some a → list_any (bytes_eq name) (names_on (f a)) ≡ list_any (bytes_eq name) (names_on a))
    → Tells (change_machine_in m g k) (change_machine m f w)
tells_change k w t m f g shows named = go (machine_at w m) refl
  where
    kept_by : Option MachineState → KeptState
    kept_by o = elim o [ None ↦ k | Some s ↦ record k { machines = slice_set k.machines (m - 1) (g s) } ]

    world_by : Option Machine → World
    world_by o = elim o [ None ↦ w | Some a ↦ record w { machines = slice_set w.machines (m - 1) (f a) } ]

    go : (o : Option Machine) → machine_at w m ≡ o → Tells (change_machine_in m g k) (change_machine m f w)
    go None at =
        subst (λ v. Tells v (change_machine m f w)) (sym (ap kept_by (machine_shown k w t m ∙ ap (option_map (shown w.header)) at)))
        (subst (λ v. Tells k v) (sym (ap world_by at)) t)
    go (Some a) at =
        subst (λ v. Tells v (change_machine m f w)) (sym (ap kept_by (machine_shown k w t m ∙ ap (option_map (shown w.header)) at)))
        (subst (λ v. Tells (record k { machines = slice_set k.machines (m - 1) (g (shown w.header a)) }) v) (sym (ap world_by at))
        (tells_set k w t (m - 1) a (f a) (g (shown w.header a)) [] (machine_place w m a at) (shows a at) (λ name. named a name at)))

-- The number of steps is not kept.
pub tells_next : (k : KeptState) (w : World) → Tells k w → Tells k (next_step w)
unfolding disks_of
tells_next k w t = record { header = t.header; layout = t.layout; moment = t.moment; machines = t.machines; disks = t.disks; names = t.names }
