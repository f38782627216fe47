-- A machine stays sane where a call of it changes: what it is a call of, whose and when it was made, stays.
use Rattle.sl_world_state.specs.Daemons.{IsSoundCall}
use Rattle.sl_world_state.specs.SaneWorlds.{IsSaneMachine}
use Rattle.sl_words.proofs.Lists.{in_map, kept, kept_inside}
use Rattle.sl_run.specs.EventChanges.{change_call, fated}
use Rattle.sl_run.specs.Refusals.{sectors_of}
use Rattle.sl_run.specs.Worlds.{Course, Daemon, Fate, Machine, Stamp, World, daemons_on, flights, is_in_flight, is_of_running, is_open, is_write_course, may_land, next_numbers, sector_size}
use Rattle.sl_world_law.proofs.PlainLists.{kept_twice, same_apart, same_kept}
use Rattle.sl_trace.specs.declared.effects.Call.{Call}
use Rattle.sl_words.proofs.CaseLaws.{false_is_true}
use Rattle.sl_words.specs.Words.{some_is}
use Rattle.std.proofs.Common.{ap, ap₂, refl, subst, sym, ◌∙◌}
use Rattle.std.specs.Prelude.{Bool, Contains, List, false, filter, is_none, length, map, true, [], ℕ, ◌&&◌, ◌*◌, ◌<◌, ◌==◌, ◌∷◌, ◌≡◌, ◌≤◌, ◌||◌}

-- What a call has read is whole.
abbrev pub ReadsWhole : World → Course → Type 0
ReadsWhole w c = (length c.sampled ≡ length c.samples * sector_size w) × (length c.samples ≤ sectors_of c.call.op)

-- How a call changes.
pub record Keeps (w : World) (a : Machine) (n : ℕ) (g : Course → Course) : Type 0 where
  pub call : (x : Course) → (g x).call ≡ x.call
  pub daemon : (x : Course) → (g x).daemon ≡ x.daemon
  pub made : (x : Course) → (g x).made ≡ x.made
  pub answered : (x : Course) → (g x).answered ≡ x.answered
  pub lands : (x : Course) → may_land (g x) ≡ true → may_land x ≡ true
  pub reads : (x : Course) → Contains a.calls x → (x.call.number == n) ≡ true → is_open a x ≡ true → ReadsWhole w x → ReadsWhole w (g x)

-- The call of this number, changed.
abbrev changed : ℕ → (Course → Course) → Course → Course
changed n g x = elim (x.call.number == n) [ true ↦ g x | false ↦ x ]

-- What holds of a changed call and of one that stays holds of each.
by_number : (P : Course → Type 0) (n : ℕ) (g : Course → Course) (x : Course) → ((x.call.number == n) ≡ true → P (g x)) → P x → P (changed n g x)
by_number P n g x one other = go (x.call.number == n) refl
  where
    go : (b : Bool) → (x.call.number == n) ≡ b → P (elim b as (λ z. Course) [ true ↦ g x | false ↦ x ])
    go true is = one is
    go false is = other

open_and_own : (n o l : Bool) → ((n && (o || l)) && o) ≡ (n && o)
open_and_own true true l = refl
open_and_own true false true = refl
open_and_own true false false = refl
open_and_own false o l = refl

-- The open calls of the daemon that runs are its calls without an answer.
pub own_open : (a : Machine) (cs : List Course) → filter (is_of_running a) (filter (is_open a) cs) ≡ filter (λ x. is_none x.answered && is_of_running a x) cs
own_open a cs =
    kept_twice (is_open a) (is_of_running a) (λ x. is_none x.answered && is_of_running a x) cs
    (λ x. open_and_own (is_none x.answered) (is_of_running a x) (may_land x))

still_open : (n o l k : Bool) → (n && (o || l)) ≡ true → (l ≡ true → k ≡ true) → (n && (o || k)) ≡ true
still_open true true l k h then = refl
still_open true false l k h then = then h
still_open false o l k h then = h

opened_before : (w : World) (a : Machine) (n : ℕ) (g : Course → Course) → Keeps w a n g → (x : Course) → is_open (change_call n g a) (changed n g x) ≡ true → is_open a x ≡ true
opened_before w a n g k x =
    by_number (λ y. is_open (change_call n g a) y ≡ true → is_open a x ≡ true) n g x
    (λ is opens.
    still_open (is_none x.answered) (is_of_running a x) (may_land (g x)) (may_land x)
    (sym (ap₂ (λ o d. is_none o && (some_is (λ (y : Daemon). y.number == d) a.daemon || may_land (g x))) (k.answered x) (k.daemon x)) ∙ opens) (k.lands x))
    (λ opens. opens)

-- The flights then are changed flights.
flight_was : (w : World) (a : Machine) (n : ℕ) (g : Course → Course) → Keeps w a n g → (c : Course) → Contains (flights (change_call n g a)) c
    → (x : Course) × Contains (flights a) x × (changed n g x ≡ c)
flight_was w a n g k c there =
    let found = kept_inside (is_open (change_call n g a)) (map (changed n g) a.calls) c there in
    let x = in_map (changed n g) a.calls c found.0 in
    (x.0, kept (is_open a) a.calls x.0 (opened_before w a n g k x.0 (subst (λ y. is_open (change_call n g a) y ≡ true) (sym x.2) found.1)) x.1, x.2)

pub changed_sane : (w : World) (a : Machine) (n : ℕ) (g : Course → Course) → IsSaneMachine w a → Keeps w a n g → IsSaneMachine w (change_call n g a)
changed_sane w a n g is k =
    record {
      resets = is.resets;
      made = λ c there. each (λ (y : Course). y.made.step < w.step) (λ x old. subst (λ (s : Stamp). s.step < w.step) (sym (k.made x)) old) is.made c there;
      distinct = same_apart (λ (c : Course). c.call.number) a.calls (map (changed n g) a.calls) numbers_same is.distinct;
      numbers = λ c there. each (λ (y : Course). y.call.number < (next_numbers a).call) (λ x old. subst (λ (z : Call). z.number < (next_numbers a).call) (sym (k.call x)) old) is.numbers c there;
      daemons = λ c there. each (λ (y : Course). y.daemon < length (daemons_on a)) (λ x old. subst (λ z. z < length (daemons_on a)) (sym (k.daemon x)) old) is.daemons c there;
      newest = is.newest;
      used = is.used;
      up = is.up;
      open_calls = λ d runs. is.open_calls d runs ∙ sym open_same;
      children_numbered = is.children_numbered;
      time = is.time;
      calls = λ c there. let x = flight_was w a n g k c there in
          subst (λ (y : Course). IsSoundCall (sector_size w) y.call) x.2
          (by_number (λ y. IsSoundCall (sector_size w) y.call) n g x.0 (λ one. subst (IsSoundCall (sector_size w)) (sym (k.call x.0)) (is.calls x.0 x.1)) (is.calls x.0 x.1));
      reads = λ c there. let x = flight_was w a n g k c there in
          let was = kept_inside (is_open a) a.calls x.0 x.1 in
          subst (ReadsWhole w) x.2 (by_number (ReadsWhole w) n g x.0 (λ one. k.reads x.0 was.0 one was.1 (is.reads x.0 x.1)) (is.reads x.0 x.1));
      in_time = is.in_time;
    }
  where
    each : (P : Course → Type 0) → ((x : Course) → P x → P (g x)) → ((x : Course) → Contains a.calls x → P x) → (c : Course) → Contains (map (changed n g) a.calls) c → P c
    each P goes_on old c there =
        let x = in_map (changed n g) a.calls c there in subst P x.2 (by_number P n g x.0 (λ one. goes_on x.0 (old x.0 x.1)) (old x.0 x.1))

    numbers_are : (cs : List Course) → map (λ (c : Course). c.call.number) (map (changed n g) cs) ≡ map (λ (c : Course). c.call.number) cs
    numbers_are [] = refl
    numbers_are (x ∷ xs) =
        ap₂ (λ y ys. y ∷ ys) (by_number (λ y. y.call.number ≡ x.call.number) n g x (λ one. ap (λ (z : Call). z.number) (k.call x)) refl) (numbers_are xs)

    numbers_same : map (λ (c : Course). c.call.number) (map (changed n g) a.calls) ≡ map (λ (c : Course). c.call.number) a.calls
    numbers_same = numbers_are a.calls

    own_test : (x : Course) → (is_none (changed n g x).answered && is_of_running a (changed n g x)) ≡ (is_none x.answered && is_of_running a x)
    own_test x =
        by_number (λ y. (is_none y.answered && is_of_running a y) ≡ (is_none x.answered && is_of_running a x)) n g x
        (λ one. ap₂ (λ o d. is_none o && some_is (λ (y : Daemon). y.number == d) a.daemon) (k.answered x) (k.daemon x)) refl

    open_same : map (λ c. c.call) (filter (is_of_running (change_call n g a)) (flights (change_call n g a))) ≡ map (λ c. c.call) (filter (is_of_running a) (flights a))
    open_same =
        ap (map (λ (c : Course). c.call)) (own_open (change_call n g a) (map (changed n g) a.calls))
        ∙ same_kept (changed n g) (λ y. is_none y.answered && is_of_running a y) (λ x. is_none x.answered && is_of_running a x) (λ y. y.call) (λ x. x.call) a.calls own_test
        (λ x. by_number (λ y. y.call ≡ x.call) n g x (λ one. k.call x) refl)
        ∙ sym (ap (map (λ (c : Course). c.call)) (own_open a a.calls))

-- ---- fates

never_lands : (w n : Bool) → (w && n && false) ≡ true → false ≡ true
never_lands true true h = h
never_lands true false h = h
never_lands false n h = h

-- A write that takes effect, or never will.
pub fate_keeps : (w : World) (a : Machine) (n : ℕ) (fate : Fate) → is_in_flight fate ≡ false → Keeps w a n (fated fate)
fate_keeps w a n fate over =
    record {
      call = λ x. refl;
      daemon = λ x. refl;
      made = λ x. refl;
      answered = λ x. refl;
      lands = λ x h. absurd (false_is_true (never_lands (is_write_course x) (is_none x.answered) (sym (ap (λ b. is_write_course x && is_none x.answered && b) over) ∙ h)));
      reads = λ x inside one opens old. old;
    }
