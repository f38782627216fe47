-- A walk over all events: what each changes on a machine is all that changes there.
use Rattle.sl_words.proofs.Options.{else_some}
use Rattle.sl_run.specs.EventChanges.{add_landing, after_crash, after_effects, after_pass, after_reset, after_restart, after_start, after_step, after_test, change_call, fated, first_change, flight_at, land_whole, passed, sampled_more, take_step, write_bytes}
use Rattle.sl_run.specs.Refusals.{sectors_left}
use Rattle.sl_run.specs.Premises.{torn_bytes}
use Rattle.sl_run.specs.Worlds.{Course, Dropped, Landed, Machine, Torn, World, change_machine, flight_of, is_in_flight, is_write_course, machine_at, stamp_now}
use Rattle.sl_run.specs.declared.event.Event.TheVariants.{AnswerCall, Crash, Do, DropWrite, ExitOf, GiveAsk, GiveCommand, GiveLvm, Land, Pass, Reset, Restart, Sample, SpawnedOf, StartDaemon, Tear, Test, WakeUp}
use Rattle.sl_run.specs.declared.event.Event.{Event}
use Rattle.sl_run_law.specs.WorldsGoOn.{time_of}
use Rattle.sl_run_law.specs.Machines.{EachMachine}
use Rattle.sl_trace.specs.declared.effects.Call.{Call}
use Rattle.sl_trace.specs.declared.effects.Effects.{Effects}
use Rattle.sl_trace.specs.declared.input.Input.{Input}
use Rattle.sl_words.proofs.CaseLaws.{none_some, one_value, some_value, true_is_false}
use Rattle.std.proofs.Common.{ap, arith, inl, inr, refl, subst, sym, ◌∙◌}
use Rattle.std.proofs.lemmas.Bool.{and_from}
use Rattle.std.proofs.lemmas.Option.{slice_get_within}
use Rattle.std.specs.List.{enumerate_from}
use Rattle.std.specs.Option.{option_map_or}
use Rattle.std.specs.Prelude.{Bool, List, length, None, Option, Some, false, if◌then◌else◌, map, not, ◌&&◌, option_and_then, slice_get, slice_set, suc, true, zero, [], ℕ, ◌+◌, ◌-◌, ◌<◌, ◌==◌, ◌∷◌, ◌≡◌, ◌⊎◌}

-- ---- places in the list

set_each : (ms : List Machine) (i j : ℕ) (x a : Machine) → slice_get ms j ≡ Some a
    → ((j ≡ i) × (slice_get (slice_set ms i x) j ≡ Some x)) ⊎ (slice_get (slice_set ms i x) j ≡ Some a)
set_each [] i j x a h = absurd (none_some a h)
set_each (y ∷ ms) zero zero x a h = inl (refl, refl)
set_each (y ∷ ms) zero (suc j) x a h = inr h
set_each (y ∷ ms) (suc i) zero x a h = inr h
set_each (y ∷ ms) (suc i) (suc j) x a h =
    elim (set_each ms i j x a h) as (λ z. ((suc j ≡ suc i) × (slice_get (slice_set ms i x) j ≡ Some x)) ⊎ (slice_get (slice_set ms i x) j ≡ Some a)) [
      | inl p ↦ inl (ap (λ n. suc n) p.0, p.1)
      | inr q ↦ inr q
    ]

index_by : (b : Bool) (o : Option Machine) (a : Machine) → (if b then None else o) ≡ Some a → (b ≡ false) × (o ≡ Some a)
index_by true o a h = absurd (none_some a h)
index_by false o a h = (refl, h)

-- The machine's place.
pub index : (w : World) (m : ℕ) (a : Machine) → machine_at w m ≡ Some a → ((m == 0) ≡ false) × (slice_get w.machines (m - 1) ≡ Some a)
index w m a h = index_by (m == 0) (slice_get w.machines (m - 1)) a h

above : (m : ℕ) → (m == 0) ≡ false → 0 < m
above zero h = absurd (true_is_false h)
above (suc m) h = omega arith

same_machine : (m n : ℕ) → (m == 0) ≡ false → (n == 0) ≡ false → n - 1 ≡ m - 1 → n ≡ m
same_machine m n h k e = omega (arith, above m h, above n k, e)

-- ---- relations

-- A relation that leaves what stays.
abbrev pub Still : (ℕ → Machine → Machine → Type 0) → Type 0
Still S = (m : ℕ) (a : Machine) → S m a a

-- .. and goes on.
abbrev pub Further : (ℕ → Machine → Machine → Type 0) → Type 0
Further S = (m : ℕ) (a b c : Machine) → S m a b → S m b c → S m a c

pub each_still : (S : ℕ → Machine → Machine → Type 0) (w : World) → Still S → EachMachine S w w
each_still S w still m a h = (a, h, still m a)

pub each_further : (S : ℕ → Machine → Machine → Type 0) (w v u : World) → Further S → EachMachine S w v → EachMachine S v u → EachMachine S w u
each_further S w v u further x y m a h =
    let p = x m a h in
    let q = y m p.0 p.1 in
    (q.0, q.1, further m a p.0 q.0 p.2 q.2)

pub each_then : (S T U : ℕ → Machine → Machine → Type 0) (w v u : World) → ((m : ℕ) (a b c : Machine) → S m a b → T m b c → U m a c) → EachMachine S w v
    → EachMachine T v u → EachMachine U w u
each_then S T U w v u further x y m a h =
    let p = x m a h in
    let q = y m p.0 p.1 in
    (q.0, q.1, further m a p.0 q.0 p.2 q.2)

-- ---- one machine changes

changed_place : (S : ℕ → Machine → Machine → Type 0) (f : Machine → Machine) (w : World) (m n : ℕ) (x a : Machine) → Still S → S m x (f x)
    → machine_at w m ≡ Some x → machine_at w n ≡ Some a
    → ((n - 1 ≡ m - 1) × (slice_get (slice_set w.machines (m - 1) (f x)) (n - 1) ≡ Some (f x))) ⊎ (slice_get (slice_set w.machines (m - 1) (f x)) (n - 1) ≡ Some a)
    → (b : Machine) × (machine_at (record w { machines = slice_set w.machines (m - 1) (f x) }) n ≡ Some b) × S n a b
changed_place S f w m n x a still turn h k (inl p) =
    let same : n ≡ m = same_machine m n (index w m x h).0 (index w n a k).0 p.0 in
    let one : x ≡ a = one_value x a (machine_at w m) h (ap (machine_at w) (sym same) ∙ k) in (
      f x,
      else_some (n == 0) (slice_get (slice_set w.machines (m - 1) (f x)) (n - 1)) (f x) (index w n a k).0 p.1,
      subst (λ y. S n y (f x)) one (subst (λ j. S j x (f x)) (sym same) turn),
    )
changed_place S f w m n x a still turn h k (inr q) =
    (a, else_some (n == 0) (slice_get (slice_set w.machines (m - 1) (f x)) (n - 1)) a (index w n a k).0 q, still n a)

changed_at : (S : ℕ → Machine → Machine → Type 0) (f : Machine → Machine) (w : World) (m : ℕ) (o : Option Machine) → machine_at w m ≡ o → Still S
    → ((a : Machine) → machine_at w m ≡ Some a → S m a (f a))
    → EachMachine S w (elim o as (λ x. World) [ None ↦ w | Some a ↦ record w { machines = slice_set w.machines (m - 1) (f a) } ])
changed_at S f w m None is still turn n a k = (a, k, still n a)
changed_at S f w m (Some x) is still turn n a k =
    changed_place S f w m n x a still (turn x is) is k (set_each w.machines (m - 1) (n - 1) (f x) a (index w n a k).1)

pub each_changed : (S : ℕ → Machine → Machine → Type 0) (f : Machine → Machine) (w : World) (m : ℕ) → Still S
    → ((a : Machine) → machine_at w m ≡ Some a → S m a (f a)) → EachMachine S w (change_machine m f w)
each_changed S f w m still turn = changed_at S f w m (machine_at w m) refl still turn

-- ---- time passes

passed_place : (d : ℕ) (growths : Option (List ℕ)) (ms : List Machine) (k i : ℕ) (a : Machine) → slice_get ms i ≡ Some a
    → slice_get (map (λ p. passed d growths p.0 p.1) (enumerate_from k ms)) i ≡ Some (passed d growths (k + i) a)
passed_place d growths [] k i a h = absurd (none_some a h)
passed_place d growths (x ∷ ms) k zero a h =
    let same : k ≡ k + 0 = omega arith in
    ap (λ y. Some (passed d growths k y)) (some_value x a h) ∙ ap (λ n. Some (passed d growths n a)) same
passed_place d growths (x ∷ ms) k (suc i) a h =
    let same : (k + 1) + i ≡ k + suc i = omega arith in
    passed_place d growths ms (k + 1) i a h ∙ ap (λ n. Some (passed d growths n a)) same

number_of : (n : ℕ) → 0 < n → 1 + (n - 1) ≡ n
number_of n h = omega (arith, h)

-- A machine's number is in the range of the list.
pub number_within : (w : World) (m : ℕ) (a : Machine) → machine_at w m ≡ Some a → (m - 1 < length w.machines) × (1 + (m - 1) ≡ m)
number_within w m a h = let p = index w m a h in (slice_get_within w.machines (m - 1) a p.1, number_of m (above m p.0))

each_passed : (S : ℕ → Machine → Machine → Type 0) (d : ℕ) (growths : Option (List ℕ)) (w : World)
    → ((m : ℕ) (a : Machine) → machine_at w m ≡ Some a → S m a (passed d growths m a)) → EachMachine S w (after_pass d growths w)
each_passed S d growths w turn n a k =
    let p = index w n a k in (
      passed d growths n a,
      else_some (n == 0) (slice_get (map (λ p. passed d growths p.0 p.1) (enumerate_from 1 w.machines)) (n - 1)) (passed d growths n a) p.0
          (passed_place d growths w.machines 1 (n - 1) a p.1 ∙ ap (λ j. Some (passed d growths j a)) (number_of n (above n p.0))),
      turn n a k,
    )

-- ---- what is asked of an event

-- Of a landing, whole or torn, on the machine with the call in flight.
abbrev pub OnFlight : (ℕ → Machine → Machine → Type 0) → World → ℕ → ℕ → (Course → Bool) → (Course → Machine → Machine) → Type 0
OnFlight S w m c p turn = (a : Machine) (f : Course) → machine_at w m ≡ Some a → flight_of a c ≡ Some f → p f ≡ true → S m a (turn f a)

-- Of a change of one machine.
abbrev pub OnOne : (ℕ → Machine → Machine → Type 0) → World → ℕ → (Machine → Machine) → Type 0
OnOne S w m turn = (a : Machine) → machine_at w m ≡ Some a → S m a (turn a)

abbrev pub any_course : Course → Bool
any_course f = true

abbrev pub reads : Course → Bool
reads f = not (is_write_course f)

abbrev pub lands_now : Course → Bool
lands_now f = is_write_course f && is_in_flight f.fate

-- What is asked of what an event changes before a daemon's step.
pub record Asked (S : ℕ → Machine → Machine → Type 0) (w : World) (e : Event) : Type 0 where
  pub pass : (d : ℕ) (growths : Option (List ℕ)) → e ≡ Pass d growths → (m : ℕ) (a : Machine) → machine_at w m ≡ Some a → S m a (passed d growths m a)
  pub sample : (m c k : ℕ) → e ≡ Sample m c k → OnOne S w m (change_call c (sampled_more w k))
  pub land : (m c : ℕ) → e ≡ Land m c → OnFlight S w m c any_course (λ f. change_call c (fated Landed))
  pub tear : (m c k : ℕ) (bytes : List ℕ) → e ≡ Tear m c k bytes → OnFlight S w m c any_course (λ f. change_call c (fated Torn))
  pub done_read : (m c : ℕ) → e ≡ Do m c → OnFlight S w m c reads (λ f. change_call c (sampled_more w (sectors_left f)))
  pub done_write : (m c : ℕ) → e ≡ Do m c → OnFlight S w m c lands_now (λ f. change_call c (fated Landed))
  pub drop_write : (m c : ℕ) → e ≡ DropWrite m c → OnOne S w m (change_call c (fated Dropped))
  pub tested : (m : ℕ) → e ≡ Test m → OnOne S w m (after_test w)
  pub start : (m : ℕ) (name : List ℕ) → e ≡ StartDaemon m name → OnOne S w m (after_start w m name)
  pub crash : (m : ℕ) → e ≡ Crash m → OnOne S w m after_crash
  pub reset : (m : ℕ) → e ≡ Reset m → OnOne S w m (after_reset w)
  pub restart : (m : ℕ) → e ≡ Restart m → OnOne S w m (after_restart w)

-- ---- landings

flight_is : (w : World) (m c : ℕ) (a : Machine) (f : Course) → machine_at w m ≡ Some a → flight_at w m c ≡ Some f → flight_of a c ≡ Some f
flight_is w m c a f h k = ap (λ (o : Option Machine). option_and_then (λ b. flight_of b c) o) (sym h) ∙ k

-- A landing changes no machine.
each_landed : (S : ℕ → Machine → Machine → Type 0) (w : World) (m c : ℕ) (call : Call) (whole : Bool) (bytes : List ℕ) (turn : Machine → Machine) → Still S
    → OnOne S w m turn → EachMachine S w (change_machine m turn (add_landing m call whole bytes w))
each_landed S w m c call whole bytes turn still on = each_changed S turn (add_landing m call whole bytes w) m still on

whole_by : (S : ℕ → Machine → Machine → Type 0) (w : World) (m c : ℕ) (o : Option Course) → flight_at w m c ≡ o → Still S
    → ((a : Machine) (f : Course) → machine_at w m ≡ Some a → flight_at w m c ≡ Some f → S m a (change_call c (fated Landed) a))
    → EachMachine S w (option_map_or (λ (f : Course). change_machine m (change_call c (fated Landed)) (add_landing m f.call true (write_bytes w f.call) w)) o w)
whole_by S w m c None is still on = each_still S w still
whole_by S w m c (Some f) is still on = each_landed S w m c f.call true (write_bytes w f.call) (change_call c (fated Landed)) still (λ a h. on a f h is)

torn_by : (S : ℕ → Machine → Machine → Type 0) (w : World) (m c k : ℕ) (bytes : List ℕ) (o : Option Course) → flight_at w m c ≡ o → Still S
    → ((a : Machine) (f : Course) → machine_at w m ≡ Some a → flight_at w m c ≡ Some f → S m a (change_call c (fated Torn) a))
    → EachMachine S w (option_map_or (λ (f : Course). change_machine m (change_call c (fated Torn)) (add_landing m f.call false (torn_bytes w f.call k bytes) w)) o w)
torn_by S w m c k bytes None is still on = each_still S w still
torn_by S w m c k bytes (Some f) is still on =
    each_landed S w m c f.call false (torn_bytes w f.call k bytes) (change_call c (fated Torn)) still (λ a h. on a f h is)

if_lands : (S : ℕ → Machine → Machine → Type 0) (w : World) (m c : ℕ) (t : Bool) → Still S
    → (t ≡ true → (a : Machine) (f : Course) → machine_at w m ≡ Some a → flight_at w m c ≡ Some f → S m a (change_call c (fated Landed) a))
    → EachMachine S w (elim t as (λ x. World) [ true ↦ land_whole m c w | false ↦ w ])
if_lands S w m c true still on = whole_by S w m c (flight_at w m c) refl still (on refl)
if_lands S w m c false still on = each_still S w still

now_lands : (f : Course) → is_write_course f ≡ true → is_in_flight f.fate ≡ true → lands_now f ≡ true
now_lands f h k = and_from _ _ h k

it_reads : (f : Course) → is_write_course f ≡ false → reads f ≡ true
it_reads f h = ap not h

completed_by : (S : ℕ → Machine → Machine → Type 0) (w : World) (m c : ℕ) (f : Course) (t : Bool) → is_write_course f ≡ t → flight_at w m c ≡ Some f → Still S
    → OnFlight S w m c reads (λ f. change_call c (sampled_more w (sectors_left f))) → OnFlight S w m c lands_now (λ f. change_call c (fated Landed))
    → EachMachine S w (elim t as (λ x. World) [
      | false ↦ change_machine m (change_call c (sampled_more w (sectors_left f))) w
      | true ↦ elim (is_in_flight f.fate) as (λ x. World) [ true ↦ land_whole m c w | false ↦ w ]
    ])
completed_by S w m c f false is at still read write =
    each_changed S (change_call c (sampled_more w (sectors_left f))) w m still (λ a h. read a f h (flight_is w m c a f h at) (it_reads f is))
completed_by S w m c f true is at still read write =
    if_lands S w m c (is_in_flight f.fate) still (λ flying a g h k. write a f h (flight_is w m c a f h at) (now_lands f is flying))

completes_by : (S : ℕ → Machine → Machine → Type 0) (w : World) (m c : ℕ) (o : Option Course) → flight_at w m c ≡ o → Still S
    → OnFlight S w m c reads (λ f. change_call c (sampled_more w (sectors_left f))) → OnFlight S w m c lands_now (λ f. change_call c (fated Landed))
    → EachMachine S w (elim o as (λ x. World) [
      | None ↦ w
      | Some f ↦ elim (is_write_course f) as (λ x. World) [
        | false ↦ change_machine m (change_call c (sampled_more w (sectors_left f))) w
        | true ↦ elim (is_in_flight f.fate) as (λ x. World) [ true ↦ land_whole m c w | false ↦ w ]
      ]
    ])
completes_by S w m c None is still read write = each_still S w still
completes_by S w m c (Some f) is still read write = completed_by S w m c f (is_write_course f) refl is still read write

-- ---- all events

pub each_first : (S : ℕ → Machine → Machine → Type 0) (e : Event) (w : World) → (time_of e ≡ 0 → Still S) → Asked S w e → EachMachine S w (first_change e w)
unfolding first_change
each_first S (Pass d growths) w still q = each_passed S d growths w (q.pass d growths refl)
each_first S (WakeUp m) w still q = each_still S w (still refl)
each_first S (GiveAsk m) w still q = each_still S w (still refl)
each_first S (GiveCommand m text) w still q = each_still S w (still refl)
each_first S (GiveLvm m text) w still q = each_still S w (still refl)
each_first S (Sample m c k) w still q = each_changed S (change_call c (sampled_more w k)) w m (still refl) (q.sample m c k refl)
each_first S (Land m c) w still q =
    whole_by S w m c (flight_at w m c) refl (still refl) (λ a f h k. q.land m c refl a f h (flight_is w m c a f h k) refl)
each_first S (Tear m c k bytes) w still q =
    torn_by S w m c k bytes (flight_at w m c) refl (still refl) (λ a f h j. q.tear m c k bytes refl a f h (flight_is w m c a f h j) refl)
each_first S (AnswerCall m c ok) w still q = each_still S w (still refl)
each_first S (Do m c) w still q = completes_by S w m c (flight_at w m c) refl (still refl) (q.done_read m c refl) (q.done_write m c refl)
each_first S (DropWrite m c) w still q = each_changed S (change_call c (fated Dropped)) w m (still refl) (q.drop_write m c refl)
each_first S (Test m) w still q = each_changed S (after_test w) w m (still refl) (q.tested m refl)
each_first S (ExitOf m p) w still q = each_still S w (still refl)
each_first S (SpawnedOf m p ok) w still q = each_still S w (still refl)
each_first S (StartDaemon m name) w still q = each_changed S (after_start w m name) w m (still refl) (q.start m name refl)
each_first S (Crash m) w still q = each_changed S after_crash w m (still refl) (q.crash m refl)
each_first S (Reset m) w still q = each_changed S (after_reset w) w m (still refl) (q.reset m refl)
each_first S (Restart m) w still q = each_changed S (after_restart w) w m (still refl) (q.restart m refl)

-- ---- a step

pub each_step : (S : ℕ → Machine → Machine → Type 0) (m : ℕ) (o : Option Input) (fx : Effects) (v : World) → Still S
    → (o ≡ None → OnOne S v m (λ a. after_effects (stamp_now v a) fx a))
    → ((i : Input) → o ≡ Some i → OnOne S v m (λ a. after_step (stamp_now v a) i fx a)) → EachMachine S v (take_step m o fx v)
each_step S m None fx v still own step = each_changed S (λ a. after_effects (stamp_now v a) fx a) v m still (own refl)
each_step S m (Some i) fx v still own step = each_changed S (λ a. after_step (stamp_now v a) i fx a) v m still (step i refl)
