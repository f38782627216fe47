-- Two lists of tests whose first refusal is the same.
use Rattle.sl_world_state.specs.KeptWorld.{FlightState, KeptState, MachineState}
use Rattle.sl_world_state.specs.Refusals.{on_flight_in, on_kept}
use Rattle.sl_world_state.specs.ShownWorlds.{Tells, flight_of_course, shown}
use Rattle.sl_world_law.proofs.Lookups.{flight_shown, machine_shown}
use Rattle.sl_run.specs.Refusals.{on_flight, on_machine}
use Rattle.sl_run.specs.Worlds.{Course, Machine, World, first_that, flight_of, machine_at}
use Rattle.sl_run.specs.declared.event.Refusal.TheVariants.{MissingCall, MissingMachine}
use Rattle.sl_run.specs.declared.event.Refusal.{Refusal}
use Rattle.sl_run.specs.declared.header.Header.{Header}
use Rattle.std.proofs.Common.{ap, refl, sym, ◌∙◌}
use Rattle.std.specs.Prelude.{Bool, List, None, Option, Some, false, option_map, true, [], ℕ, ◌∷◌, ◌≡◌}

abbrev pub Tests : Type 0
Tests = List (Bool × Refusal)

-- The first that holds is refused alike.
pub record Agree (xs ys : Tests) : Type 0 where
  pub same : first_that xs ≡ first_that ys

pub same_tests : {xs : Tests} → Agree xs xs
same_tests = record { same = refl }

-- The same first test, and where it fails the same after it.
pub front_test : (b c : Bool) (r : Refusal) (xs ys : Tests) → b ≡ c → (b ≡ false → Agree xs ys) → Agree ((b, r) ∷ xs) ((c, r) ∷ ys)
front_test true c r xs ys is rest = record { same = ap (λ z. first_that ((z, r) ∷ ys)) is }
front_test false c r xs ys is rest = record { same = (rest refl).same ∙ ap (λ z. first_that ((z, r) ∷ ys)) is }

-- The only test.
pub last_test : (b c : Bool) (r : Refusal) → b ≡ c → Agree ((b, r) ∷ []) ((c, r) ∷ [])
last_test b c r is = record { same = ap (λ z. first_that ((z, r) ∷ [])) is }

abbrev tests_at : {A : Type 0} → Refusal → (A → Tests) → Option A → Tests
tests_at r f o = elim o as (λ x. Tests) [ None ↦ (true, r) ∷ [] | Some a ↦ f a ]

pub same_machine : (k : KeptState) (w : World) → Tells k w → (m : ℕ) (f : Machine → Tests) (g : MachineState → Tests)
    → ((a : Machine) → machine_at w m ≡ Some a → Agree (f a) (g (shown w.header a)))
    → Agree (on_machine w m f) (on_kept k m g)
same_machine k w t m f g same = record { same = go (machine_at w m) refl }
  where
    go : (o : Option Machine) → machine_at w m ≡ o → first_that (on_machine w m f) ≡ first_that (on_kept k m g)
    go None at =
        ap (λ q. first_that (tests_at MissingMachine f q)) at
        ∙ sym (ap (λ q. first_that (tests_at MissingMachine g q)) (machine_shown k w t m ∙ ap (option_map (shown w.header)) at))
    go (Some a) at =
        ap (λ q. first_that (tests_at MissingMachine f q)) at ∙ (same a at).same
        ∙ sym (ap (λ q. first_that (tests_at MissingMachine g q)) (machine_shown k w t m ∙ ap (option_map (shown w.header)) at))

abbrev tests_where : Tests → Bool → Tests
tests_where xs b = elim b as (λ x. Tests) [ false ↦ (true, MissingCall) ∷ [] | true ↦ xs ]

pub same_flight : (h : Header) (a : Machine) (c : ℕ) (p : Course → Bool) (f : Course → Tests) (q : FlightState → Bool) (g : FlightState → Tests)
    → ((x : Course) → flight_of a c ≡ Some x → p x ≡ q (flight_of_course h a x))
    → ((x : Course) → flight_of a c ≡ Some x → p x ≡ true → Agree (f x) (g (flight_of_course h a x)))
    → Agree (on_flight a c p f) (on_flight_in (shown h a) c q g)
same_flight h a c p f q g kind same = record { same = go (flight_of a c) refl }
  where
    here : (x : Course) → flight_of a c ≡ Some x → (b : Bool) → p x ≡ b
        → first_that (tests_where (f x) (p x)) ≡ first_that (tests_where (g (flight_of_course h a x)) (q (flight_of_course h a x)))
    here x at true is =
        ap (λ z. first_that (tests_where (f x) z)) is ∙ (same x at is).same
        ∙ sym (ap (λ z. first_that (tests_where (g (flight_of_course h a x)) z)) (sym (kind x at) ∙ is))
    here x at false is =
        ap (λ z. first_that (tests_where (f x) z)) is ∙ sym (ap (λ z. first_that (tests_where (g (flight_of_course h a x)) z)) (sym (kind x at) ∙ is))

    go : (o : Option Course) → flight_of a c ≡ o → first_that (on_flight a c p f) ≡ first_that (on_flight_in (shown h a) c q g)
    go None at =
        ap (λ o. first_that (tests_at MissingCall (λ x. tests_where (f x) (p x)) o)) at
        ∙ sym (ap (λ o. first_that (tests_at MissingCall (λ x. tests_where (g x) (q x)) o)) (flight_shown h a c ∙ ap (option_map (flight_of_course h a)) at))
    go (Some x) at =
        ap (λ o. first_that (tests_at MissingCall (λ x. tests_where (f x) (p x)) o)) at ∙ here x at (p x) refl
        ∙ sym (ap (λ o. first_that (tests_at MissingCall (λ x. tests_where (g x) (q x)) o)) (flight_shown h a c ∙ ap (option_map (flight_of_course h a)) at))
