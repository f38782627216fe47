-- What more it means that an event may happen.
use Rattle.sl_words.proofs.Truth.{left_is_false}
use Rattle.sl_run.specs.Refusals.{event_tests, is_placed, is_read_course, is_shaped, may_happen, needs_daemon, on_flight, sectors_left}
use Rattle.sl_run.specs.Premises.{spells_something, torn_bytes}
use Rattle.sl_run.specs.Worlds.{Course, Machine, World, first_that, flight_of, is_in_flight, is_landed, is_of_running, is_torn_fate, is_write_course, machine_at}
use Rattle.sl_run.specs.declared.event.Event.TheVariants.{AnswerCall, Do, DropWrite, Land, Tear}
use Rattle.sl_run.specs.declared.event.Event.{Event}
use Rattle.sl_run.specs.declared.event.Refusal.TheVariants.{MissingCall, MissingFlight, MissingLanding, MissingPlace, MissingSample, PremiseTorn, Syntax}
use Rattle.sl_run.specs.declared.event.Refusal.{Refusal}
use Rattle.sl_run_law.proofs.Guards.{NoneHolds, on_course, on_this, passes}
use Rattle.sl_words.proofs.CaseLaws.{false_is_true, true_is_false}
use Rattle.std.proofs.Common.{refl, subst}
use Rattle.std.specs.Prelude.{Bool, List, None, Some, false, is_none, nat_lt, not, true, [], ℕ, ◌&&◌, ◌||◌, ◌∷◌, ◌≡◌}

shaped_by : (b : Bool) (ts : List (Bool × Refusal)) → is_none (first_that ((not b, Syntax) ∷ ts)) ≡ true → b ≡ true
shaped_by true ts h = refl
shaped_by false ts h = absurd (false_is_true h)

-- An event that may happen is one that a line may spell.
pub shaped : (w : World) (e : Event) → may_happen w e ≡ true → is_shaped w e ≡ true
shaped w e h = shaped_by (is_shaped w e) (event_tests w e) h

kind_by : (t : Bool) (ts : List (Bool × Refusal)) → NoneHolds (elim t as (λ x. List (Bool × Refusal)) [ false ↦ (true, MissingCall) ∷ [] | true ↦ ts ]) → t ≡ true
kind_by false ts h = absurd (true_is_false h.0)
kind_by true ts h = refl

on_kind : (a : Machine) (c : ℕ) (p : Course → Bool) (g : Course → List (Bool × Refusal)) (f : Course) → flight_of a c ≡ Some f → NoneHolds (on_flight a c p g)
    → p f ≡ true
on_kind a c p g f h n =
    kind_by (p f) (g f) (subst (λ o. NoneHolds (elim o as (λ x. List (Bool × Refusal)) [
      | None ↦ (true, MissingCall) ∷ []
      | Some x ↦ elim (p x) as (λ y. List (Bool × Refusal)) [ false ↦ (true, MissingCall) ∷ [] | true ↦ g x ]
    ])) h n)

pub land_writes : (w : World) (m c : ℕ) (a : Machine) (f : Course) → may_happen w (Land m c) ≡ true → machine_at w m ≡ Some a → flight_of a c ≡ Some f
    → is_write_course f ≡ true
unfolding event_tests
land_writes w m c a f may h k =
    let g : Course → List (Bool × Refusal) = λ x. (not (is_placed w x.call), MissingPlace) ∷ (not (is_in_flight x.fate), MissingFlight) ∷ [] in
    on_kind a c is_write_course g f k (on_this w m (λ b. on_flight b c is_write_course g) a h (passes w (Land m c) may))

abbrev tear_tests : World → ℕ → List ℕ → Course → List (Bool × Refusal)
tear_tests w k bytes x =
    (not (is_placed w x.call), MissingPlace) ∷ (not (is_in_flight x.fate), MissingFlight) ∷ (spells_something w (torn_bytes w x.call k bytes), PremiseTorn) ∷ []

pub tear_writes : (w : World) (m c k : ℕ) (bytes : List ℕ) (a : Machine) (f : Course) → may_happen w (Tear m c k bytes) ≡ true → machine_at w m ≡ Some a
    → flight_of a c ≡ Some f → (is_write_course f ≡ true) × (spells_something w (torn_bytes w f.call k bytes) ≡ false)
unfolding event_tests
tear_writes w m c k bytes a f may h j =
    let n = on_this w m (λ b. on_flight b c is_write_course (tear_tests w k bytes)) a h (passes w (Tear m c k bytes) may) in
    (on_kind a c is_write_course (tear_tests w k bytes) f j n, (on_course a c is_write_course (tear_tests w k bytes) f j n).1.1.0)

abbrev done_tests : World → Course → List (Bool × Refusal)
done_tests w x = (not (is_placed w x.call), MissingPlace) ∷ (is_torn_fate x.fate, MissingLanding) ∷ []

-- What is done at once is a running daemon's, and wasn't torn.
pub done_runs : (w : World) (m c : ℕ) (a : Machine) (f : Course) → may_happen w (Do m c) ≡ true → machine_at w m ≡ Some a → flight_of a c ≡ Some f
    → (is_of_running a f ≡ true) × (is_torn_fate f.fate ≡ false)
unfolding event_tests
done_runs w m c a f may h j =
    let n = (on_this w m (λ b. needs_daemon b ∷ on_flight b c (is_of_running b) (done_tests w)) a h (passes w (Do m c) may)).1 in
    (on_kind a c (is_of_running a) (done_tests w) f j n, (on_course a c (is_of_running a) (done_tests w) f j n).1.0)

abbrev answer_tests : Bool → Course → List (Bool × Refusal)
answer_tests ok x =
    (ok && is_read_course x && nat_lt 0 (sectors_left x), MissingSample) ∷ (ok && is_write_course x && not (is_landed x.fate), MissingLanding) ∷ []

-- A write that is answered ok has landed.
pub answer_lands : (w : World) (m c : ℕ) (ok : Bool) (a : Machine) (f : Course) → may_happen w (AnswerCall m c ok) ≡ true → machine_at w m ≡ Some a
    → flight_of a c ≡ Some f → (ok && is_write_course f && not (is_landed f.fate)) ≡ false
unfolding event_tests
answer_lands w m c ok a f may h j =
    let n = (on_this w m (λ b. needs_daemon b ∷ on_flight b c (is_of_running b) (answer_tests ok)) a h (passes w (AnswerCall m c ok) may)).1 in
    (on_course a c (is_of_running a) (answer_tests ok) f j n).1.0

-- What is dropped is of a daemon that ended.
pub drop_ended : (w : World) (m c : ℕ) (a : Machine) (f : Course) → may_happen w (DropWrite m c) ≡ true → machine_at w m ≡ Some a → flight_of a c ≡ Some f
    → is_of_running a f ≡ false
unfolding event_tests
drop_ended w m c a f may h j =
    let g : Machine → Course → List (Bool × Refusal) = λ b x. (is_of_running b x || not (is_in_flight x.fate), MissingFlight) ∷ [] in
    left_is_false (is_of_running a f) (not (is_in_flight f.fate))
    (on_course a c is_write_course (g a) f j (on_this w m (λ b. on_flight b c is_write_course (g b)) a h (passes w (DropWrite m c) may))).0

-- A daemon runs where a call is answered.
pub answer_runs : (w : World) (m c : ℕ) (ok : Bool) (a : Machine) → may_happen w (AnswerCall m c ok) ≡ true → machine_at w m ≡ Some a → is_none a.daemon ≡ false
unfolding event_tests
answer_runs w m c ok a may h =
    (on_this w m (λ b. needs_daemon b ∷ on_flight b c (is_of_running b) (answer_tests ok)) a h (passes w (AnswerCall m c ok) may)).0

pub do_runs : (w : World) (m c : ℕ) (a : Machine) → may_happen w (Do m c) ≡ true → machine_at w m ≡ Some a → is_none a.daemon ≡ false
unfolding event_tests
do_runs w m c a may h = (on_this w m (λ b. needs_daemon b ∷ on_flight b c (is_of_running b) (done_tests w)) a h (passes w (Do m c) may)).0
