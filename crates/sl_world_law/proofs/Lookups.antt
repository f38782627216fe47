-- A machine and a call are found in what is kept as they are in the world.
use Rattle.sl_world_state.specs.KeptWorld.{FlightState, KeptState, MachineState, flight_in, machine_in}
use Rattle.sl_world_state.specs.ShownWorlds.{Tells, flight_of_course, shown}
use Rattle.sl_run.specs.Worlds.{Course, Machine, World, flight_of, flights, is_open, machine_at}
use Rattle.sl_run.specs.declared.header.Header.{Header}
use Rattle.sl_words.proofs.Lists.{find_inside, kept}
use Rattle.sl_words.proofs.WordLaws.{and_true as both_true}
use Rattle.std.proofs.Common.{ap, ap₂, refl, sym, ◌∙◌}
use Rattle.std.proofs.lemmas.Option.{slice_get-map}
use Rattle.std.specs.Prelude.{Bool, Contains, List, None, Option, Some, cond, false, filter, find, if◌then◌else◌, map, option_map, slice_get, true, [], ℕ, ◌&&◌, ◌-◌, ◌==◌, ◌∷◌, ◌≡◌}

-- ---- machines

map_if : {A B : Type 0} (f : A → B) (b : Bool) (o : Option A) → (if b then None else option_map f o) ≡ option_map f (if b then None else o)
map_if f true o = refl
map_if f false o = refl

pub machine_shown : (k : KeptState) (w : World) → Tells k w → (m : ℕ) → machine_in k m ≡ option_map (shown w.header) (machine_at w m)
machine_shown k w t m =
    ap (λ (ms : List MachineState). if m == 0 then None else slice_get ms (m - 1)) (sym t.machines)
    ∙ ap (λ (o : Option MachineState). if m == 0 then None else o) (slice_get-map (shown w.header) w.machines (m - 1))
    ∙ map_if (shown w.header) (m == 0) (slice_get w.machines (m - 1))

at_if : {A : Type 0} (b : Bool) (o : Option A) (a : A) → (if b then None else o) ≡ Some a → o ≡ Some a
at_if true o a h = absurd cc
at_if false o a h = h

pub machine_place : (w : World) (m : ℕ) (a : Machine) → machine_at w m ≡ Some a → slice_get w.machines (m - 1) ≡ Some a
machine_place w m a at = at_if (m == 0) (slice_get w.machines (m - 1)) a at

-- ---- calls

and_true : (b : Bool) → (b && true) ≡ b
and_true true = refl
and_true false = refl

and_false : (b : Bool) → (b && false) ≡ false
and_false true = refl
and_false false = refl

pub find_filter : {A : Type 0} (p q : A → Bool) (xs : List A) → find p (filter q xs) ≡ find (λ x. p x && q x) xs
find_filter p q [] = refl
find_filter p q (x ∷ xs) = go (q x) refl (find_filter p q xs)
  where
    go : (c : Bool) → q x ≡ c → find p (filter q xs) ≡ find (λ y. p y && q y) xs → find p (filter q (x ∷ xs)) ≡ find (λ y. p y && q y) (x ∷ xs)
    go true is rest =
        ap (λ z. find p (cond z (x ∷ filter q xs) (filter q xs))) is
        ∙ ap₂ (λ z o. cond z (Some x) o) (sym (ap (λ z. p x && z) is ∙ and_true (p x))) rest
    go false is rest =
        ap (λ z. find p (cond z (x ∷ filter q xs) (filter q xs))) is ∙ rest
        ∙ sym (ap (λ z. cond z (Some x) (find (λ y. p y && q y) xs)) (ap (λ z. p x && z) is ∙ and_false (p x)))

pub find_map : {A B : Type 0} (f : A → B) (p : B → Bool) (xs : List A) → find p (map f xs) ≡ option_map f (find (λ x. p (f x)) xs)
find_map f p [] = refl
find_map f p (x ∷ xs) = go (p (f x)) (find_map f p xs)
  where
    go : (b : Bool) → find p (map f xs) ≡ option_map f (find (λ y. p (f y)) xs)
        → cond b (Some (f x)) (find p (map f xs)) ≡ option_map f (cond b (Some x) (find (λ y. p (f y)) xs))
    go true rest = refl
    go false rest = rest

pub flight_shown : (h : Header) (a : Machine) (c : ℕ) → flight_in (shown h a) c ≡ option_map (flight_of_course h a) (flight_of a c)
unfolding shown
flight_shown h a c =
    find_map (flight_of_course h a) (λ (f : FlightState). f.number == c) (filter (is_open a) a.calls)
    ∙ ap (option_map (flight_of_course h a)) (find_filter (λ (x : Course). x.call.number == c) (is_open a) a.calls)

-- What is found is in flight.
pub flight_inside : (a : Machine) (c : ℕ) (x : Course) → flight_of a c ≡ Some x → Contains (flights a) x
flight_inside a c x at =
    let found = find_inside (λ (y : Course). y.call.number == c && is_open a y) a.calls x at in
    kept (is_open a) a.calls x (both_true (x.call.number == c) (is_open a x) found.1).1 found.0
