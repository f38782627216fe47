-- The call that an event is about: it is the only one with its number, and no more is sampled than it reads.
use Rattle.sl_words.proofs.Truth.{second_is_false}
use Rattle.sl_run.specs.Refusals.{event_tests, is_placed, is_read_course, may_happen, needs_daemon, on_flight, sectors_left, sectors_of}
use Rattle.sl_run.specs.Worlds.{Course, Machine, World, flight_of, is_of_running, is_open, is_write_course, machine_at, is_landed}
use Rattle.sl_run.specs.declared.event.Event.TheVariants.{AnswerCall, Sample}
use Rattle.sl_run.specs.declared.event.Refusal.TheVariants.{MissingCall, MissingLanding, MissingPlace, MissingSample}
use Rattle.sl_run.specs.declared.event.Refusal.{Refusal}
use Rattle.sl_run_law.proofs.CourseLists.{changed_if}
use Rattle.sl_run_law.proofs.FatesStay.{numbered}
use Rattle.sl_run_law.proofs.Guards.{NoneHolds, on_course, on_this, passes}
use Rattle.sl_run_law.specs.FatesStay.{AreDistinct, Every}
use Rattle.sl_words.proofs.CaseLaws.{true_is_false}
use Rattle.std.proofs.Common.{arith, refl}
use Rattle.std.proofs.lemmas.Bool.{ltb-false}
use Rattle.std.specs.Prelude.{Bool, List, None, Option, Some, false, length, map, nat_lt, not, true, [], ℕ, ◌&&◌, ◌-◌, ◌==◌, ◌∷◌, ◌≡◌, ◌≤◌}

-- ---- calls that are changed by a test

one_by : (Q : Course → Type 0) (f : Course → Course) (c : Course) (b : Bool) → (b ≡ true → Q (f c)) → (b ≡ false → Q c) → Q (changed_if b f c)
one_by Q f c true h k = h refl
one_by Q f c false h k = k refl

-- What holds after the change of some.
pub every_changed : (P Q : Course → Type 0) (p : Course → Bool) (f : Course → Course) (cs : List Course) → ((c : Course) → p c ≡ true → P c → Q (f c))
    → ((c : Course) → p c ≡ false → P c → Q c) → Every P cs → Every Q (map (λ c. changed_if (p c) f c) cs)
every_changed P Q p f [] h k each = tt
every_changed P Q p f (c ∷ cs) h k each = (one_by Q f c (p c) (λ t. h c t each.0) (λ t. k c t each.0), every_changed P Q p f cs h k each.1)

pub every_both : (P Q : Course → Type 0) (cs : List Course) → Every P cs → Every Q cs → Every (λ c. P c × Q c) cs
every_both P Q [] h k = tt
every_both P Q (c ∷ cs) h k = ((h.0, k.0), every_both P Q cs h.1 k.1)

-- ---- the call in flight

-- Each call with this number is this one.
abbrev pub IsOne : ℕ → Course → Course → Type 0
IsOne c f x = (x.call.number == c) ≡ true → x ≡ f

pub all_one : (a : Machine) (c : ℕ) (f : Course) → flight_of a c ≡ Some f → AreDistinct a.calls → Every (IsOne c f) a.calls
all_one a c f h distinct = numbered (is_open a) c (λ x. x ≡ f) a.calls f h distinct refl

-- ---- what may happen

-- The call in flight, with the tests on it.
abbrev FlightTests : Machine → ℕ → (Course → List (Bool × Refusal)) → Type 0
FlightTests a c g = (f : Course) × (flight_of a c ≡ Some f) × NoneHolds (g f)

flight_by : (a : Machine) (c : ℕ) (p : Course → Bool) (g : Course → List (Bool × Refusal)) (o : Option Course) → flight_of a c ≡ o → NoneHolds (on_flight a c p g)
    → NoneHolds (elim o as (λ x. List (Bool × Refusal)) [
      | None ↦ (true, MissingCall) ∷ []
      | Some x ↦ elim (p x) as (λ y. List (Bool × Refusal)) [ false ↦ (true, MissingCall) ∷ [] | true ↦ g x ]
    ]) → FlightTests a c g
flight_by a c p g None is n k = absurd (true_is_false k.0)
flight_by a c p g (Some f) is n k = (f, is, on_course a c p g f is n)

flight_there : (a : Machine) (c : ℕ) (p : Course → Bool) (g : Course → List (Bool × Refusal)) → NoneHolds (on_flight a c p g) → FlightTests a c g
flight_there a c p g n = flight_by a c p g (flight_of a c) refl n n

-- A sampling is of sectors that the call hasn't sampled.
pub samples_so : (w : World) (m c k : ℕ) (a : Machine) → may_happen w (Sample m c k) ≡ true → machine_at w m ≡ Some a
    → (f : Course) × (flight_of a c ≡ Some f) × (k ≤ sectors_left f)
unfolding event_tests
samples_so w m c k a may at =
    let g : Course → List (Bool × Refusal) = λ f. (not (is_placed w f.call), MissingPlace) ∷ (nat_lt (sectors_left f) k, MissingSample) ∷ [] in
    let n = on_this w m (λ b. needs_daemon b ∷ on_flight b c is_read_course g) a at (passes w (Sample m c k) may) in
    let r = flight_there a c is_read_course g n.1 in
    (r.0, r.1, ltb-false (sectors_left r.0) k r.2.1.0)

none_left : (a n : ℕ) → a ≤ n → nat_lt 0 (n - a) ≡ false → a ≡ n
none_left a n h k = let less = ltb-false 0 (n - a) k in omega (arith, h, less)

-- A read is answered ok once all is sampled.
pub answers_so : (w : World) (m c : ℕ) (a : Machine) (f : Course) → may_happen w (AnswerCall m c true) ≡ true → machine_at w m ≡ Some a → flight_of a c ≡ Some f
    → length f.samples ≤ sectors_of f.call.op → is_read_course f ≡ true → length f.samples ≡ sectors_of f.call.op
unfolding event_tests
answers_so w m c a f may at flight few reads =
    let g : Course → List (Bool × Refusal) =
    λ x. (true && is_read_course x && nat_lt 0 (sectors_left x), MissingSample) ∷ (true && is_write_course x && not (is_landed x.fate), MissingLanding) ∷ [] in
    let n = on_this w m (λ b. needs_daemon b ∷ on_flight b c (is_of_running b) g) a at (passes w (AnswerCall m c true) may) in
    let r = on_course a c (is_of_running a) g f flight n.1 in
    none_left (length f.samples) (sectors_of f.call.op) few (second_is_false (is_read_course f) (nat_lt 0 (sectors_left f)) r.0 reads)
