-- The events of calls in flight: that there is such a call, and the world between as one in which it has changed.
use Rattle.sl_run_law.proofs.Course.OneMachineChanges.{changed_here}
use Rattle.sl_id_safety.proofs.State.CallFrames.{ChangesCall}
use Rattle.sl_id_safety.proofs.State.FindingFrames.{changed_elsewhere}
use Rattle.sl_id_safety.specs.Steps.EventParts.{between}
use Rattle.sl_run_law.proofs.Landing.OneArrival.{changed_landings}
use Rattle.sl_run.specs.EventChanges.{add_landing, change_call, complete, fated, first_change, flight_at, land_torn, land_whole, next_step, sampled_more, write_bytes}
use Rattle.sl_run.specs.Refusals.{event_tests, is_placed, is_read_course, is_shaped, may_happen, needs_daemon, on_flight, on_machine, sectors_left}
use Rattle.sl_run.specs.Premises.{spells_something, torn_bytes}
use Rattle.sl_run.specs.Worlds.{Course, Dropped, Fate, Landed, Landing, Machine, Torn, World, change_machine, first_that, flight_of, is_in_flight, is_landed, is_of_running, is_torn_fate, is_write_course, machine_at}
use Rattle.sl_run.specs.declared.event.Event.TheVariants.{AnswerCall, Do, DropWrite, Land, Sample, Tear}
use Rattle.sl_run.specs.declared.event.Event.{Event}
use Rattle.sl_run.specs.declared.event.Refusal.TheVariants.{MissingCall, MissingFlight, MissingLanding, MissingMachine, MissingPlace, MissingSample, PremiseTorn, Syntax}
use Rattle.sl_run.specs.declared.event.Refusal.{Refusal}
use Rattle.sl_run_law.proofs.WorldsGoOn.{event_goes}
use Rattle.sl_run_law.specs.FatesStay.{AreDistinct}
use Rattle.sl_run_law.specs.WorldsGoOn.{Goes, time_of}
use Rattle.sl_words.proofs.CaseLaws.{false_is_true, true_is_false}
use Rattle.std.proofs.Common.{ap, refl, ◌∙◌}
use Rattle.std.proofs.lemmas.Bool.{not-false, or_parts}
use Rattle.std.specs.Option.{option_map_or}
use Rattle.std.specs.Prelude.{Bool, List, None, Option, Some, false, is_none, length, nat_lt, not, option_and_then, slice_set, true, [], ℕ, ◌&&◌, ◌++◌, ◌-◌, ◌||◌, ◌∷◌, ◌≡◌}

-- ---- no test refuses the event

abbrev pub NoneHolds : List (Bool × Refusal) → Type 0
NoneHolds [] = Unit {0}
NoneHolds (t ∷ ts) = (t.0 ≡ false) × NoneHolds ts

none_holds : (ts : List (Bool × Refusal)) → is_none (first_that ts) ≡ true → NoneHolds ts
none_holds [] h = tt
none_holds ((true, r) ∷ ts) h = absurd (false_is_true h)
none_holds ((false, r) ∷ ts) h = (refl, none_holds ts h)

pub passes : (w : World) (e : Event) → may_happen w e ≡ true → NoneHolds (event_tests w e)
passes w e h = (none_holds ((not (is_shaped w e), Syntax) ∷ event_tests w e) h).1

-- A machine of the world, with the tests on it.
pub record OnOne (w : World) (m : ℕ) (tests : Machine → List (Bool × Refusal)) : Type 0 where
  pub machine : Machine
  pub at : machine_at w m ≡ Some machine
  pub passes : NoneHolds (tests machine)

on_one_by : (w : World) (m : ℕ) (tests : Machine → List (Bool × Refusal)) (o : Option Machine) → machine_at w m ≡ o
    → NoneHolds (elim o as (λ z. List (Bool × Refusal)) [ None ↦ (true, MissingMachine) ∷ [] | Some a ↦ tests a ]) → OnOne w m tests
on_one_by w m tests None at h = absurd (true_is_false h.0)
on_one_by w m tests (Some a) at h = record { machine = a; at = at; passes = h }

pub on_one : (w : World) (m : ℕ) (tests : Machine → List (Bool × Refusal)) → NoneHolds (on_machine w m tests) → OnOne w m tests
on_one w m tests h = on_one_by w m tests (machine_at w m) refl h

-- A call in flight of the machine, with the tests on it.
pub record OnFlight (a : Machine) (n : ℕ) (kind : Course → Bool) (tests : Course → List (Bool × Refusal)) : Type 0 where
  pub course : Course
  pub flight : flight_of a n ≡ Some course
  pub is_kind : kind course ≡ true
  pub passes : NoneHolds (tests course)

on_flight_if : (a : Machine) (n : ℕ) (kind : Course → Bool) (tests : Course → List (Bool × Refusal)) (c : Course) (b : Bool) → flight_of a n ≡ Some c → kind c ≡ b
    → NoneHolds (elim b as (λ z. List (Bool × Refusal)) [ false ↦ (true, MissingCall) ∷ [] | true ↦ tests c ]) → OnFlight a n kind tests
on_flight_if a n kind tests c false at is h = absurd (true_is_false h.0)
on_flight_if a n kind tests c true at is h = record { course = c; flight = at; is_kind = is; passes = h }

on_flight_by : (a : Machine) (n : ℕ) (kind : Course → Bool) (tests : Course → List (Bool × Refusal)) (o : Option Course) → flight_of a n ≡ o
    → NoneHolds (elim o as (λ z. List (Bool × Refusal)) [
      | None ↦ (true, MissingCall) ∷ []
      | Some x ↦ elim (kind x) as (λ y. List (Bool × Refusal)) [ false ↦ (true, MissingCall) ∷ [] | true ↦ tests x ]
    ]) → OnFlight a n kind tests
on_flight_by a n kind tests None at h = absurd (true_is_false h.0)
on_flight_by a n kind tests (Some c) at h = on_flight_if a n kind tests c (kind c) at refl h

pub on_flying : (a : Machine) (n : ℕ) (kind : Course → Bool) (tests : Course → List (Bool × Refusal)) → NoneHolds (on_flight a n kind tests)
    → OnFlight a n kind tests
on_flying a n kind tests h = on_flight_by a n kind tests (flight_of a n) refl h

-- ---- which call an event is of

-- The call in flight of an event.
pub record Flies (w : World) (m n : ℕ) (P : Machine → Course → Type 0) : Type 0 where
  pub machine : Machine
  pub course : Course
  pub at : machine_at w m ≡ Some machine
  pub flight : flight_of machine n ≡ Some course
  pub holds : P machine course

abbrev pub IsFlyingWrite : Machine → Course → Type 0
IsFlyingWrite a c = (is_write_course c ≡ true) × (is_in_flight c.fate ≡ true)

pub land_flies : (w : World) (m n : ℕ) → may_happen w (Land m n) ≡ true → Flies w m n IsFlyingWrite
unfolding event_tests
land_flies w m n may =
    let tests : Course → List (Bool × Refusal) = λ f. (not (is_placed w f.call), MissingPlace) ∷ (not (is_in_flight f.fate), MissingFlight) ∷ [] in
    let o = on_one w m (λ a. on_flight a n is_write_course tests) (passes w (Land m n) may) in
    let f = on_flying o.machine n is_write_course tests o.passes in
    record { machine = o.machine; course = f.course; at = o.at; flight = f.flight; holds = (f.is_kind, not-false (is_in_flight f.course.fate) f.passes.1.0) }

-- .. and what it leaves in part spells nothing.
abbrev pub IsTorn : World → ℕ → List ℕ → Machine → Course → Type 0
IsTorn w k bytes a c = (is_write_course c ≡ true) × (is_in_flight c.fate ≡ true) × (spells_something w (torn_bytes w c.call k bytes) ≡ false)

pub tear_flies : (w : World) (m n k : ℕ) (bytes : List ℕ) → may_happen w (Tear m n k bytes) ≡ true → Flies w m n (IsTorn w k bytes)
unfolding event_tests
tear_flies w m n k bytes may =
    let tests : Course → List (Bool × Refusal) =
    λ f. (not (is_placed w f.call), MissingPlace) ∷ (not (is_in_flight f.fate), MissingFlight) ∷ (spells_something w (torn_bytes w f.call k bytes), PremiseTorn) ∷ [] in
    let o = on_one w m (λ a. on_flight a n is_write_course tests) (passes w (Tear m n k bytes) may) in
    let f = on_flying o.machine n is_write_course tests o.passes in
    record {
      machine = o.machine;
      course = f.course;
      at = o.at;
      flight = f.flight;
      holds = (f.is_kind, not-false (is_in_flight f.course.fate) f.passes.1.0, f.passes.1.1.0);
    }

-- A write of an ended daemon that is dropped.
abbrev pub IsDropped : Machine → Course → Type 0
IsDropped a c = (is_write_course c ≡ true) × (is_in_flight c.fate ≡ true) × (is_of_running a c ≡ false)

pub drop_flies : (w : World) (m n : ℕ) → may_happen w (DropWrite m n) ≡ true → Flies w m n IsDropped
unfolding event_tests
drop_flies w m n may =
    let o = on_one w m (λ a. on_flight a n is_write_course (λ f. (is_of_running a f || not (is_in_flight f.fate), MissingFlight) ∷ [])) (passes w (DropWrite m n) may) in
    let f = on_flying o.machine n is_write_course (λ f. (is_of_running o.machine f || not (is_in_flight f.fate), MissingFlight) ∷ []) o.passes in
    let p = or_parts (is_of_running o.machine f.course) (not (is_in_flight f.course.fate)) f.passes.0 in
    record { machine = o.machine; course = f.course; at = o.at; flight = f.flight; holds = (f.is_kind, not-false (is_in_flight f.course.fate) p.1, p.0) }

-- A read of which so many sectors more may be sampled, on a machine whose daemon runs.
abbrev pub IsSampling : ℕ → Machine → Course → Type 0
IsSampling k a c = (is_none a.daemon ≡ false) × (is_read_course c ≡ true) × (nat_lt (sectors_left c) k ≡ false)

pub sample_flies : (w : World) (m n k : ℕ) → may_happen w (Sample m n k) ≡ true → Flies w m n (IsSampling k)
unfolding event_tests
sample_flies w m n k may =
    let tests : Course → List (Bool × Refusal) = λ f. (not (is_placed w f.call), MissingPlace) ∷ (nat_lt (sectors_left f) k, MissingSample) ∷ [] in
    let o = on_one w m (λ a. needs_daemon a ∷ on_flight a n is_read_course tests) (passes w (Sample m n k) may) in
    let f = on_flying o.machine n is_read_course tests o.passes.1 in
    record { machine = o.machine; course = f.course; at = o.at; flight = f.flight; holds = (o.passes.0, f.is_kind, f.passes.1.0) }

-- A call of the running daemon that is done, and wasn't torn.
abbrev pub IsDone : Machine → Course → Type 0
IsDone a c = (is_none a.daemon ≡ false) × (is_of_running a c ≡ true) × (is_torn_fate c.fate ≡ false)

pub do_flies : (w : World) (m n : ℕ) → may_happen w (Do m n) ≡ true → Flies w m n IsDone
unfolding event_tests
do_flies w m n may =
    let tests : Course → List (Bool × Refusal) = λ f. (not (is_placed w f.call), MissingPlace) ∷ (is_torn_fate f.fate, MissingLanding) ∷ [] in
    let o = on_one w m (λ a. needs_daemon a ∷ on_flight a n (is_of_running a) tests) (passes w (Do m n) may) in
    let f = on_flying o.machine n (is_of_running o.machine) tests o.passes.1 in
    record { machine = o.machine; course = f.course; at = o.at; flight = f.flight; holds = (o.passes.0, f.is_kind, f.passes.1.0) }

-- A call of the running daemon that is answered: ok only where all is sampled, or has landed.
abbrev pub IsAnswered : Bool → Machine → Course → Type 0
IsAnswered ok a c =
    (is_none a.daemon ≡ false) × (is_of_running a c ≡ true) × ((ok && is_read_course c && nat_lt 0 (sectors_left c)) ≡ false)
    × ((ok && is_write_course c && not (is_landed c.fate)) ≡ false)

pub answer_flies : (w : World) (m n : ℕ) (ok : Bool) → may_happen w (AnswerCall m n ok) ≡ true → Flies w m n (IsAnswered ok)
unfolding event_tests
answer_flies w m n ok may =
    let tests : Course → List (Bool × Refusal) =
    λ f. (ok && is_read_course f && nat_lt 0 (sectors_left f), MissingSample) ∷ (ok && is_write_course f && not (is_landed f.fate), MissingLanding) ∷ [] in
    let o = on_one w m (λ a. needs_daemon a ∷ on_flight a n (is_of_running a) tests) (passes w (AnswerCall m n ok) may) in
    let f = on_flying o.machine n (is_of_running o.machine) tests o.passes.1 in
    record { machine = o.machine; course = f.course; at = o.at; flight = f.flight; holds = (o.passes.0, f.is_kind, f.passes.0, f.passes.1.0) }

pub flight_is : {P : Machine → Course → Type 0} (w : World) (m n : ℕ) (f : Flies w m n P) → flight_at w m n ≡ Some f.course
flight_is w m n f = ap (λ (o : Option Machine). option_and_then (λ a. flight_of a n) o) f.at ∙ f.flight

-- ---- the worlds between

-- One more landing, or none, and one call changed.
abbrev pub with_call : World → ℕ → ℕ → (Course → Course) → World
with_call u m n turn = next_step (change_machine m (change_call n turn) u)

changes_by : (w u v : World) (m n : ℕ) (turn : Course → Course) (a : Machine) (c : Course) → u.machines ≡ w.machines → v ≡ with_call u m n turn
    → length v.machines ≡ length w.machines → v.moment ≡ w.moment → machine_at w m ≡ Some a → flight_of a n ≡ Some c → ((x : Course) → ((turn x).daemon ≡ x.daemon) × ((turn x).call ≡ x.call))
    → AreDistinct a.calls → ChangesCall w v m n turn
changes_by w u v m n turn a c same is machines moment at flies keeps distinct =
    let on : (k : ℕ) → machine_at u k ≡ machine_at w k = λ k. ap (λ ms. machine_at (record w { machines = ms }) k) same in
    record {
      machine = a;
      course = c;
      machines = machines;
      moment = moment;
      at = at;
      flight = flies;
      later = ap (λ x. machine_at x m) is ∙ changed_here u m (change_call n turn) a (on m ∙ at);
      elsewhere = λ k apart. ap (λ x. machine_at x k) is ∙ changed_elsewhere u m k (change_call n turn) apart ∙ on k;
      keeps = keeps;
      distinct = distinct;
    }

fate_keeps : (fate : Fate) (x : Course) → ((fated fate x).daemon ≡ x.daemon) × ((fated fate x).call ≡ x.call)
fate_keeps fate x = (refl, refl)

sample_keeps : (w : World) (k : ℕ) (x : Course) → ((sampled_more w k x).daemon ≡ x.daemon) × ((sampled_more w k x).call ≡ x.call)
sample_keeps w k x = (refl, refl)

whole_is : (w : World) (m n : ℕ) (f : Course) → flight_at w m n ≡ Some f
    → land_whole m n w ≡ change_machine m (change_call n (fated Landed)) (add_landing m f.call true (write_bytes w f.call) w)
whole_is w m n f h =
    ap (λ o. option_map_or (λ (c : Course). change_machine m (change_call n (fated Landed)) (add_landing m c.call true (write_bytes w c.call) w)) o w) h

torn_is : (w : World) (m n k : ℕ) (bytes : List ℕ) (f : Course) → flight_at w m n ≡ Some f
    → land_torn m n k bytes w ≡ change_machine m (change_call n (fated Torn)) (add_landing m f.call false (torn_bytes w f.call k bytes) w)
torn_is w m n k bytes f h =
    ap (λ o. option_map_or (λ (c : Course). change_machine m (change_call n (fated Torn)) (add_landing m c.call false (torn_bytes w c.call k bytes) w)) o w) h

pub land_between : (w : World) (m n : ℕ) (f : Course) → flight_at w m n ≡ Some f
    → between w (Land m n) ≡ with_call (add_landing m f.call true (write_bytes w f.call) w) m n (fated Landed)
unfolding first_change
land_between w m n f h = ap next_step (whole_is w m n f h)

pub tear_between : (w : World) (m n k : ℕ) (bytes : List ℕ) (f : Course) → flight_at w m n ≡ Some f
    → between w (Tear m n k bytes) ≡ with_call (add_landing m f.call false (torn_bytes w f.call k bytes) w) m n (fated Torn)
unfolding first_change
tear_between w m n k bytes f h = ap next_step (torn_is w m n k bytes f h)

pub drop_between : (w : World) (m n : ℕ) → between w (DropWrite m n) ≡ with_call w m n (fated Dropped)
unfolding first_change
drop_between w m n = refl

pub sample_between : (w : World) (m n k : ℕ) → between w (Sample m n k) ≡ with_call w m n (sampled_more w k)
unfolding first_change
sample_between w m n k = refl

-- What a Do makes of a call.
completed : World → ℕ → ℕ → Course → Bool → Bool → World
completed w m n f writes flies =
    elim writes [
      | false ↦ change_machine m (change_call n (sampled_more w (sectors_left f))) w
      | true ↦ elim flies [ true ↦ land_whole m n w | false ↦ w ]
    ]

complete_is : (w : World) (m n : ℕ) (f : Course) (writes flies : Bool) → flight_at w m n ≡ Some f → is_write_course f ≡ writes → is_in_flight f.fate ≡ flies
    → complete m n w ≡ completed w m n f writes flies
unfolding completed
complete_is w m n f writes flies h k j =
    ap (λ o. elim o as (λ z. World) [
      | None ↦ w
      | Some c ↦ elim (is_write_course c) as (λ z. World) [
        | false ↦ change_machine m (change_call n (sampled_more w (sectors_left c))) w
        | true ↦ elim (is_in_flight c.fate) as (λ z. World) [ true ↦ land_whole m n w | false ↦ w ]
      ]
    ]) h ∙ ap (λ b. completed w m n f b (is_in_flight f.fate)) k ∙ ap (λ b. completed w m n f writes b) j

pub do_read_between : (w : World) (m n : ℕ) (f : Course) → flight_at w m n ≡ Some f → is_write_course f ≡ false
    → between w (Do m n) ≡ with_call w m n (sampled_more w (sectors_left f))
unfolding first_change completed
do_read_between w m n f h k = ap next_step (complete_is w m n f false (is_in_flight f.fate) h k refl)

pub do_write_between : (w : World) (m n : ℕ) (f : Course) → flight_at w m n ≡ Some f → is_write_course f ≡ true → is_in_flight f.fate ≡ true
    → between w (Do m n) ≡ with_call (add_landing m f.call true (write_bytes w f.call) w) m n (fated Landed)
unfolding first_change completed
do_write_between w m n f h k j = ap next_step (complete_is w m n f true true h k j ∙ whole_is w m n f h)

-- A write that has landed is only answered.
pub do_landed_between : (w : World) (m n : ℕ) (f : Course) → flight_at w m n ≡ Some f → is_write_course f ≡ true → is_in_flight f.fate ≡ false
    → between w (Do m n) ≡ next_step w
unfolding first_change completed
do_landed_between w m n f h k j = ap next_step (complete_is w m n f true false h k j)

-- ---- the call that changes, and what lands

-- What an event that lands a write, or drops it, or samples a read, makes of a world.
pub record CallEvent (w : World) (e : Event) (m n : ℕ) (a : Machine) (c : Course) (turn : Course → Course) (newer : List Landing) : Type 0 where
  pub changes : ChangesCall w (between w e) m n turn
  pub machine : changes.machine ≡ a
  pub course : changes.course ≡ c
  pub landings : (between w e).landings ≡ newer ++ w.landings
  pub header : (between w e).header ≡ w.header
  pub layout : (between w e).layout ≡ w.layout
  pub moment : (between w e).moment ≡ w.moment

-- A landing of a call, now.
abbrev pub landing_of_call : World → ℕ → Bool → List ℕ → Course → Landing
landing_of_call w m whole bytes f =
    record {
      path = f.call.path;
      offset = f.call.offset;
      bytes = bytes;
      whole = whole;
      writer = Some (m, f.call.number);
      step = w.step;
      moment = w.moment;
    }

lands_by : (w u v : World) (m n : ℕ) (turn : Course → Course) → v ≡ with_call u m n turn → v.landings ≡ u.landings
lands_by w u v m n turn is = ap (λ x. x.landings) is ∙ changed_landings m (change_call n turn) u

left_by : (m : ℕ) (f : Machine → Machine) (u : World) (o : Option Machine) → (elim o as (λ x. World) [ None ↦ u | Some a ↦ record u { machines = slice_set u.machines (m - 1) (f a) } ]).moment ≡ u.moment
left_by m f u None = refl
left_by m f u (Some a) = refl

moment_by : (u v : World) (m n : ℕ) (turn : Course → Course) → v ≡ with_call u m n turn → v.moment ≡ u.moment
moment_by u v m n turn is = ap (λ x. x.moment) is ∙ left_by m (change_call n turn) u (machine_at u m)

pub landing_event : {P : Machine → Course → Type 0} (w : World) (e : Event) (m n : ℕ) (fate : Fate) (whole : Bool) (bytes : Course → List ℕ) (f : Flies w m n P)
    → between w e ≡ with_call (add_landing m f.course.call whole (bytes f.course) w) m n (fated fate) → AreDistinct f.machine.calls
    → CallEvent w e m n f.machine f.course (fated fate) (landing_of_call w m whole (bytes f.course) f.course ∷ [])
unfolding changes_by
landing_event w e m n fate whole bytes f is distinct =
    let u : World = add_landing m f.course.call whole (bytes f.course) w in
    let g : Goes (time_of e) 1 w (between w e) = event_goes w e [] in
    record {
      changes = changes_by w u (between w e) m n (fated fate) f.machine f.course refl is g.machines (moment_by u (between w e) m n (fated fate) is) f.at f.flight (fate_keeps fate) distinct;
      machine = refl;
      course = refl;
      landings = lands_by w u (between w e) m n (fated fate) is;
      header = g.header;
      layout = g.layout;
      moment = moment_by u (between w e) m n (fated fate) is;
    }

pub fate_event : {P : Machine → Course → Type 0} (w : World) (e : Event) (m n : ℕ) (fate : Fate) (f : Flies w m n P) → between w e ≡ with_call w m n (fated fate)
    → AreDistinct f.machine.calls → CallEvent w e m n f.machine f.course (fated fate) []
unfolding changes_by
fate_event w e m n fate f is distinct =
    let g : Goes (time_of e) 1 w (between w e) = event_goes w e [] in
    record {
      changes = changes_by w w (between w e) m n (fated fate) f.machine f.course refl is g.machines (moment_by w (between w e) m n (fated fate) is) f.at f.flight (fate_keeps fate) distinct;
      machine = refl;
      course = refl;
      landings = lands_by w w (between w e) m n (fated fate) is;
      header = g.header;
      layout = g.layout;
      moment = moment_by w (between w e) m n (fated fate) is;
    }

pub sample_event : {P : Machine → Course → Type 0} (w : World) (e : Event) (m n k : ℕ) (f : Flies w m n P) → between w e ≡ with_call w m n (sampled_more w k)
    → AreDistinct f.machine.calls → CallEvent w e m n f.machine f.course (sampled_more w k) []
unfolding changes_by
sample_event w e m n k f is distinct =
    let g : Goes (time_of e) 1 w (between w e) = event_goes w e [] in
    record {
      changes = changes_by w w (between w e) m n (sampled_more w k) f.machine f.course refl is g.machines (moment_by w (between w e) m n (sampled_more w k) is) f.at f.flight (sample_keeps w k) distinct;
      machine = refl;
      course = refl;
      landings = lands_by w w (between w e) m n (sampled_more w k) is;
      header = g.header;
      layout = g.layout;
      moment = moment_by w (between w e) m n (sampled_more w k) is;
    }
