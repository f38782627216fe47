-- What is known where an event may happen.
use Rattle.sl_world_law.proofs.TestLists.{Tests}
use Rattle.sl_words.proofs.Options.{none_is}
use Rattle.sl_run.specs.Refusals.{event_tests, is_shaped, may_happen, on_flight, on_machine, refusal_of}
use Rattle.sl_run.specs.Worlds.{Course, Machine, World, first_that, flight_of, machine_at}
use Rattle.sl_run.specs.declared.event.Event.{Event}
use Rattle.sl_run.specs.declared.event.Refusal.TheVariants.{MissingCall, MissingMachine}
use Rattle.sl_run.specs.declared.event.Refusal.{Refusal}
use Rattle.std.proofs.Common.{ap, refl, sym, ◌∙◌}
use Rattle.std.specs.Prelude.{Bool, None, Option, Some, false, not, true, [], ℕ, ◌∷◌, ◌≡◌}

abbrev some_reason : Refusal → Option Refusal
some_reason r = Some r

no_reason : (r : Refusal) → some_reason r ≡ None → ⊥
no_reason r h = cc

-- No test holds: not the first, and none after it.
pub open_test : (b : Bool) (r : Refusal) (xs : Tests) → first_that ((b, r) ∷ xs) ≡ None → (b ≡ false) × (first_that xs ≡ None)
open_test true r xs h = absurd (no_reason r h)
open_test false r xs h = (refl, h)

abbrev tests_at : {A : Type 0} → Refusal → (A → Tests) → Option A → Tests
tests_at r f o = elim o as (λ x. Tests) [ None ↦ (true, r) ∷ [] | Some a ↦ f a ]

found : {A : Type 0} (r : Refusal) (f : A → Tests) (o : Option A) → first_that (tests_at r f o) ≡ None → (a : A) × (o ≡ Some a) × (first_that (f a) ≡ None)
found r f None h = absurd (no_reason r h)
found r f (Some a) h = (a, refl, h)

pub machine_found : (w : World) (m : ℕ) (f : Machine → Tests) → first_that (on_machine w m f) ≡ None
    → (a : Machine) × (machine_at w m ≡ Some a) × (first_that (f a) ≡ None)
machine_found w m f h = found MissingMachine f (machine_at w m) h

kind : (b : Bool) (xs : Tests) → first_that (elim b as (λ x. Tests) [ false ↦ (true, MissingCall) ∷ [] | true ↦ xs ]) ≡ None → (b ≡ true) × (first_that xs ≡ None)
kind true xs h = (refl, h)
kind false xs h = absurd (no_reason MissingCall h)

pub flight_found : (a : Machine) (c : ℕ) (p : Course → Bool) (f : Course → Tests) → first_that (on_flight a c p f) ≡ None
    → (x : Course) × (flight_of a c ≡ Some x) × (p x ≡ true) × (first_that (f x) ≡ None)
flight_found a c p f h =
    let x = found MissingCall (λ y. elim (p y) as (λ z. Tests) [ false ↦ (true, MissingCall) ∷ [] | true ↦ f y ]) (flight_of a c) h in
    let k = kind (p x.0) (f x.0) x.2 in
    (x.0, x.1, k.0, k.1)

-- Each test of the event fails.
pub allowed : (w : World) (e : Event) → may_happen w e ≡ true → first_that (event_tests w e) ≡ None
allowed w e may = (open_test (not (is_shaped w e)) _ (event_tests w e) (none_is (refusal_of w e) may)).1

-- The same of a machine and a call that are known.
pub machine_allowed : (w : World) (m : ℕ) (f : Machine → Tests) (a : Machine) → first_that (on_machine w m f) ≡ None → machine_at w m ≡ Some a → first_that (f a) ≡ None
machine_allowed w m f a h at = sym (ap (λ o. first_that (tests_at MissingMachine f o)) at) ∙ h

pub flight_allowed : (a : Machine) (c : ℕ) (p : Course → Bool) (f : Course → Tests) (x : Course) → first_that (on_flight a c p f) ≡ None → flight_of a c ≡ Some x
    → (p x ≡ true) × (first_that (f x) ≡ None)
flight_allowed a c p f x h at =
    kind (p x) (f x) (sym (ap (λ o. first_that (tests_at MissingCall (λ y. elim (p y) as (λ z. Tests) [ false ↦ (true, MissingCall) ∷ [] | true ↦ f y ]) o)) at) ∙ h)
