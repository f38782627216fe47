-- What it means that an event may happen.
use Rattle.sl_run.specs.Refusals.{event_tests, is_placed, is_shaped, may_happen, on_flight, on_machine}
use Rattle.sl_run.specs.Premises.{spells_something, torn_bytes}
use Rattle.sl_run.specs.Worlds.{Course, Machine, World, first_that, flight_of, is_in_flight, is_of_running, is_write_course, machine_at}
use Rattle.sl_run.specs.declared.event.Event.TheVariants.{DropWrite, Land, Restart, StartDaemon, Tear}
use Rattle.sl_run.specs.declared.event.Event.{Event}
use Rattle.sl_run.specs.declared.event.Refusal.TheVariants.{MissingCall, MissingFlight, MissingMachine, MissingPlace, PremiseTorn, Syntax}
use Rattle.sl_run.specs.declared.event.Refusal.{Refusal}
use Rattle.sl_words.proofs.CaseLaws.{false_is_true, true_is_false}
use Rattle.std.proofs.Common.{refl, subst}
use Rattle.std.proofs.lemmas.Bool.{not-false}
use Rattle.std.specs.Prelude.{Bool, List, None, Option, Some, false, is_none, not, true, [], ℕ, ◌||◌, ◌∷◌, ◌≡◌}

-- None of the tests holds.
abbrev pub NoneHolds : List (Bool × Refusal) → Type 0
NoneHolds [] = Unit {0}
NoneHolds (t ∷ ts) = (t.0 ≡ false) × NoneHolds ts

none_holds : (ts : List (Bool × Refusal)) → is_none (first_that ts) ≡ true → NoneHolds ts
none_holds [] h = tt
none_holds ((true, r) ∷ ts) h = absurd (false_is_true h)
none_holds ((false, r) ∷ ts) h = (refl, none_holds ts h)

pub passes : (w : World) (e : Event) → may_happen w e ≡ true → NoneHolds (event_tests w e)
passes w e h = (none_holds ((not (is_shaped w e), Syntax) ∷ event_tests w e) h).1

pub on_this : (w : World) (m : ℕ) (f : Machine → List (Bool × Refusal)) (a : Machine) → machine_at w m ≡ Some a → NoneHolds (on_machine w m f) → NoneHolds (f a)
on_this w m f a h n = subst (λ o. NoneHolds (elim o as (λ x. List (Bool × Refusal)) [ None ↦ (true, MissingMachine) ∷ [] | Some b ↦ f b ])) h n

of_kind : (t : Bool) (ts : List (Bool × Refusal)) → NoneHolds (elim t as (λ x. List (Bool × Refusal)) [ false ↦ (true, MissingCall) ∷ [] | true ↦ ts ]) → NoneHolds ts
of_kind false ts h = absurd (true_is_false h.0)
of_kind true ts h = h

pub on_course : (a : Machine) (c : ℕ) (p : Course → Bool) (g : Course → List (Bool × Refusal)) (f : Course) → flight_of a c ≡ Some f → NoneHolds (on_flight a c p g)
    → NoneHolds (g f)
on_course a c p g f h n =
    of_kind (p f) (g f) (subst (λ o. NoneHolds (elim o as (λ x. List (Bool × Refusal)) [
      | None ↦ (true, MissingCall) ∷ []
      | Some x ↦ elim (p x) as (λ y. List (Bool × Refusal)) [ false ↦ (true, MissingCall) ∷ [] | true ↦ g x ]
    ])) h n)

no_course : (a : Machine) (c : ℕ) (p : Course → Bool) (g : Course → List (Bool × Refusal)) → flight_of a c ≡ None → NoneHolds (on_flight a c p g) → true ≡ false
no_course a c p g h n =
    (subst (λ o. NoneHolds (elim o as (λ x. List (Bool × Refusal)) [
      | None ↦ (true, MissingCall) ∷ []
      | Some x ↦ elim (p x) as (λ y. List (Bool × Refusal)) [ false ↦ (true, MissingCall) ∷ [] | true ↦ g x ]
    ])) h n).0

no_or : (a b : Bool) → (a || b) ≡ false → b ≡ false
no_or true b h = absurd (true_is_false h)
no_or false b h = h

dropped_by : (a : Machine) (c : ℕ) (g : Course → List (Bool × Refusal)) (o : Option Course) → flight_of a c ≡ o → NoneHolds (on_flight a c is_write_course g)
    → ((x : Course) → flight_of a c ≡ Some x → is_in_flight x.fate ≡ true) → (f : Course) × (flight_of a c ≡ Some f) × (is_in_flight f.fate ≡ true)
dropped_by a c g None is n h = absurd (true_is_false (no_course a c is_write_course g is n))
dropped_by a c g (Some f) is n h = (f, is, h f is)

-- ---- events

pub starts : (w : World) (m : ℕ) (name : List ℕ) (a : Machine) → may_happen w (StartDaemon m name) ≡ true → machine_at w m ≡ Some a
    → (a.up ≡ true) × (a.used ≡ false)
unfolding event_tests
starts w m name a may h =
    let n = on_this w m _ a h (passes w (StartDaemon m name) may) in
    (not-false a.up n.0, n.1.0)

pub restarts : (w : World) (m : ℕ) (a : Machine) → may_happen w (Restart m) ≡ true → machine_at w m ≡ Some a → a.up ≡ false
unfolding event_tests
restarts w m a may h = (on_this w m _ a h (passes w (Restart m) may)).0

pub lands : (w : World) (m c : ℕ) (a : Machine) (f : Course) → may_happen w (Land m c) ≡ true → machine_at w m ≡ Some a → flight_of a c ≡ Some f
    → is_in_flight f.fate ≡ true
unfolding event_tests
lands w m c a f may h k =
    let g : Course → List (Bool × Refusal) = λ x. (not (is_placed w x.call), MissingPlace) ∷ (not (is_in_flight x.fate), MissingFlight) ∷ [] in
    not-false (is_in_flight f.fate) (on_course a c is_write_course g f k (on_this w m (λ b. on_flight b c is_write_course g) a h (passes w (Land m c) may))).1.0

pub tears : (w : World) (m c k : ℕ) (bytes : List ℕ) (a : Machine) (f : Course) → may_happen w (Tear m c k bytes) ≡ true → machine_at w m ≡ Some a
    → flight_of a c ≡ Some f → is_in_flight f.fate ≡ true
unfolding event_tests
tears w m c k bytes a f may h j =
    let g : Course → List (Bool × Refusal) =
    λ x. (not (is_placed w x.call), MissingPlace) ∷ (not (is_in_flight x.fate), MissingFlight) ∷ (spells_something w (torn_bytes w x.call k bytes), PremiseTorn) ∷ [] in
    not-false (is_in_flight f.fate) (on_course a c is_write_course g f j (on_this w m (λ b. on_flight b c is_write_course g) a h (passes w (Tear m c k bytes) may))).1.0

pub drops : (w : World) (m c : ℕ) (a : Machine) → may_happen w (DropWrite m c) ≡ true → machine_at w m ≡ Some a
    → (f : Course) × (flight_of a c ≡ Some f) × (is_in_flight f.fate ≡ true)
unfolding event_tests
drops w m c a may h =
    let g : Course → List (Bool × Refusal) = λ x. (is_of_running a x || not (is_in_flight x.fate), MissingFlight) ∷ [] in
    let n = on_this w m (λ b. on_flight b c is_write_course (λ x. (is_of_running b x || not (is_in_flight x.fate), MissingFlight) ∷ [])) a h
    (passes w (DropWrite m c) may) in
    dropped_by a c g (flight_of a c) refl n (λ x k. not-false (is_in_flight x.fate) (no_or (is_of_running a x) (not (is_in_flight x.fate)) (on_course a c is_write_course g x k n).0))
