-- What an event makes of what is kept, said directly.
use Rattle.sl_world_state.specs.Changes.{change_flight, completed_in, first_kept, landed_flight, landed_in, reset_machine, sampled_flight, stays_open, write_at}
use Rattle.sl_world_state.specs.Inputs.{done_in, own_in, rest_in}
use Rattle.sl_world_state.specs.KeptWorld.{FlightState, KeptState, MachineState, Place, change_machine_in, flight_in, machine_in}
use Rattle.sl_world_state.specs.Refusals.{left_in}
use Rattle.sl_world_state.specs.ShownWorlds.{Tells, flight_of_course, shown}
use Rattle.sl_world_state.specs.Steps.{new_flight, owned_machine, stepped_kept, stepped_machine, taken_kept}
use Rattle.sl_world_law.proofs.ChangedCalls.{open_is}
use Rattle.sl_world_law.proofs.Lookups.{machine_shown}
use Rattle.sl_words.proofs.Lists.{contains_first, contains_more, find_inside, in_map, kept_inside, set_here}
use Rattle.sl_words.proofs.Options.{mapped_value, then_value}
use Rattle.sl_run.specs.EventChanges.{ends_of}
use Rattle.sl_run.specs.Inputs.{machine_of}
use Rattle.sl_run.specs.Locks.{Locks, left_locks}
use Rattle.sl_run.specs.Lvm.{HeldLock, ends_lock}
use Rattle.sl_run.specs.Worlds.{Machine, World, flights, is_open, machine_at}
use Rattle.sl_run.specs.declared.event.Event.TheVariants.{Reset}
use Rattle.sl_run.specs.declared.header.Header.{Header}
use Rattle.sl_trace.specs.Traces.{is_ended_by, no_effects}
use Rattle.sl_trace.specs.declared.effects.Effects.{Effects}
use Rattle.sl_trace.specs.declared.effects.Grant.{Grant}
use Rattle.sl_trace.specs.declared.input.Answer.{Answer}
use Rattle.sl_trace.specs.declared.input.Answer.TheVariants.{Read, Written}
use Rattle.sl_trace.specs.declared.input.Input.TheVariants.{Answer as Told}
use Rattle.sl_trace.specs.declared.input.Input.{Input}
use Rattle.sl_words.proofs.CaseLaws.{none_some, some_value}
use Rattle.sl_words.proofs.WordLaws.{and_true}
use Rattle.sl_world_law.specs.DirectChanges.{DoneDirectly, QuietEvents, ResetsAreQuiet}
use Rattle.std.proofs.Common.{ap, ap₂, refl, subst, suc, sym, zero, ◌∙◌}
use Rattle.std.proofs.lemmas.Bool.Decides.{Decides-eqb}
use Rattle.std.specs.Option.{option_map_or}
use Rattle.std.specs.Prelude.{Bool, Contains, List, None, Option, Some, cond, false, filter, fold, if◌then◌else◌, is_none, map, not, option_and_then, option_map, slice_get, slice_set, true, unwrap_or, [], ℕ, ◌++◌, ◌-◌, ◌==◌, ◌∷◌, ◌≡◌}

-- ---- one machine changed twice

set_twice : {A : Type 0} (xs : List A) (i : ℕ) (x y : A) → slice_set (slice_set xs i x) i y ≡ slice_set xs i y
set_twice [] i x y = refl
set_twice (z ∷ xs) zero x y = refl
set_twice (z ∷ xs) (suc i) x y = ap (λ zs. z ∷ zs) (set_twice xs i x y)

set_same : {A : Type 0} (xs : List A) (i : ℕ) (x : A) → slice_get xs i ≡ Some x → slice_set xs i x ≡ xs
set_same [] i x at = refl
set_same (z ∷ xs) zero x at = ap (λ y. y ∷ xs) (sym (some_value z x at))
set_same (z ∷ xs) (suc i) x at = ap (λ zs. z ∷ zs) (set_same xs i x at)

abbrev with_machine : KeptState → ℕ → MachineState → KeptState
with_machine k m s = record k { machines = slice_set k.machines (m - 1) s }

changed_is : (k : KeptState) (m : ℕ) (f : MachineState → MachineState) (s : MachineState) → machine_in k m ≡ Some s → change_machine_in m f k ≡ with_machine k m (f s)
changed_is k m f s at = ap (λ (o : Option MachineState). elim o as (λ x. KeptState) [ None ↦ k | Some x ↦ with_machine k m (f x) ]) at

unchanged_is : (k : KeptState) (m : ℕ) (f : MachineState → MachineState) → machine_in k m ≡ None → change_machine_in m f k ≡ k
unchanged_is k m f at = ap (λ (o : Option MachineState). elim o as (λ x. KeptState) [ None ↦ k | Some x ↦ with_machine k m (f x) ]) at

at_if : {A : Type 0} (b : Bool) (o : Option A) (a : A) → (if b then None else o) ≡ Some a → (b ≡ false) × (o ≡ Some a)
at_if true o a h = absurd (none_some a h)
at_if false o a h = (refl, h)

there_then : (k : KeptState) (m : ℕ) (s x : MachineState) → machine_in k m ≡ Some s → machine_in (with_machine k m x) m ≡ Some x
there_then k m s x at =
    let p = at_if (m == 0) (slice_get k.machines (m - 1)) s at in
    ap (λ b. if b then None else slice_get (slice_set k.machines (m - 1) x) (m - 1)) p.0 ∙ set_here k.machines (m - 1) x s p.1

changed_twice : (k : KeptState) (m : ℕ) (f g : MachineState → MachineState) (s : MachineState) → machine_in k m ≡ Some s
    → change_machine_in m g (change_machine_in m f k) ≡ with_machine k m (g (f s))
changed_twice k m f g s at =
    ap (change_machine_in m g) (changed_is k m f s at) ∙ changed_is (with_machine k m (f s)) m g (f s) (there_then k m s (f s) at)
    ∙ ap (λ ss. record k { machines = ss }) (set_twice k.machines (m - 1) (f s) (g (f s)))

-- ---- where the machine does nothing

all_kept : (gs : List Grant) → filter (λ g. not (is_ended_by [] g)) gs ++ [] ≡ gs
all_kept [] = refl
all_kept (g ∷ gs) = ap (λ hs. g ∷ hs) (all_kept gs)

all_locked : (area : ℕ) (hs : List HeldLock) → filter (λ (h : HeldLock). not (ends_lock area [] h.lock)) hs ≡ hs
all_locked area [] = refl
all_locked area (h ∷ hs) = ap (λ ks. h ∷ ks) (all_locked area hs)

nothing_left : (k : Locks) → left_locks no_effects k ≡ k
nothing_left k = ap (λ hs. record k { lvm = record k.lvm { held = hs } }) (all_locked k.lvm.area k.lvm.held)

nothing_owned : (s : MachineState) → owned_machine no_effects s ≡ s
nothing_owned s = ap₂ (λ gs ks. record s { held = gs; locks = ks }) (all_kept s.held) (nothing_left s.locks)

nothing_taken : (k : KeptState) (m : ℕ) → taken_kept m None no_effects k ≡ k
nothing_taken k m = go (machine_in k m) refl
  where
    go : (o : Option MachineState) → machine_in k m ≡ o → change_machine_in m (owned_machine no_effects) k ≡ k
    go None at = unchanged_is k m (owned_machine no_effects) at
    go (Some s) at =
        changed_is k m (owned_machine no_effects) s at ∙ ap (with_machine k m) (nothing_owned s)
        ∙ ap (λ ss. record k { machines = ss }) (set_same k.machines (m - 1) s (at_if (m == 0) (slice_get k.machines (m - 1)) s at).1)

pub quiet_events : QuietEvents
quiet_events k e none quiet =
    ap₂ (λ o fx. taken_kept (machine_of e) o fx (first_kept e k)) none quiet ∙ nothing_taken (first_kept e k) (machine_of e)

abbrev no_one : MachineState → Option Input
no_one s = None

no_input : (o : Option MachineState) → option_and_then no_one o ≡ None
no_input None = refl
no_input (Some s) = refl

reset_first : (k : KeptState) (m : ℕ) → first_kept (Reset m) k ≡ change_machine_in m (reset_machine k.header k.moment) k
unfolding first_kept
reset_first k m = refl

pub resets_are_quiet : ResetsAreQuiet
resets_are_quiet k m = go (machine_in k m) refl
  where
    own_by : Option MachineState → Effects
    own_by o = option_map_or (λ (s : MachineState). ends_of s.held) o no_effects

    go : (o : Option MachineState) → machine_in k m ≡ o → stepped_kept (Reset m) (own_in k (Reset m)) k ≡ first_kept (Reset m) k
    go None at =
        ap₂ (λ o fx. taken_kept m o fx (first_kept (Reset m) k)) (no_input (machine_in k m)) (ap own_by at) ∙ nothing_taken (first_kept (Reset m) k) m
    go (Some s) at =
        ap₂ (λ o fx. taken_kept m o fx (first_kept (Reset m) k)) (no_input (machine_in k m)) (ap own_by at)
        ∙ ap (taken_kept m None (ends_of s.held)) (reset_first k m)
        ∙ changed_twice k m (reset_machine k.header k.moment) (owned_machine (ends_of s.held)) s at
        ∙ sym (reset_first k m ∙ changed_is k m (reset_machine k.header k.moment) s at)

-- ---- a call that is done

-- What of calls no answer of this number takes away.
abbrev others : ℕ → List FlightState → List FlightState
others c fs = filter (λ f. not (f.number == c)) fs

abbrev changed_flight : ℕ → (FlightState → FlightState) → FlightState → FlightState
changed_flight c g f = elim (f.number == c) [ true ↦ g f | false ↦ f ]

one_gone : (c : ℕ) (g : FlightState → FlightState) → ((f : FlightState) → (g f).number ≡ f.number) → (f : FlightState) (fs gs : List FlightState) → stays_open f ≡ true
    → others c gs ≡ others c fs → (b : Bool) → (f.number == c) ≡ b
    → others c (cond (stays_open (changed_flight c g f)) (changed_flight c g f ∷ gs) gs) ≡ others c (f ∷ fs)
one_gone c g same f fs gs still rest true num =
    ap (λ z. others c (cond (stays_open z) (z ∷ gs) gs)) (ap (λ b. elim b as (λ x. FlightState) [ true ↦ g f | false ↦ f ]) num)
    ∙ gone (stays_open (g f)) ∙ rest ∙ sym (ap (λ b. cond (not b) (f ∷ others c fs) (others c fs)) num)
  where
    gone : (b : Bool) → others c (cond b (g f ∷ gs) gs) ≡ others c gs
    gone true = ap (λ n. cond (not (n == c)) (g f ∷ others c gs) (others c gs)) (same f) ∙ ap (λ b. cond (not b) (g f ∷ others c gs) (others c gs)) num
    gone false = refl
one_gone c g same f fs gs still rest false num =
    ap (λ z. others c (cond (stays_open z) (z ∷ gs) gs)) (ap (λ b. elim b as (λ x. FlightState) [ true ↦ g f | false ↦ f ]) num)
    ∙ ap (λ b. others c (cond b (f ∷ gs) gs)) still
    ∙ ap (λ b. cond (not b) (f ∷ others c gs) (others c gs)) num ∙ ap (λ hs. f ∷ hs) rest
    ∙ sym (ap (λ b. cond (not b) (f ∷ others c fs) (others c fs)) num)

all_gone : (c : ℕ) (g : FlightState → FlightState) → ((f : FlightState) → (g f).number ≡ f.number) → (fs : List FlightState)
    → ((f : FlightState) → Contains fs f → stays_open f ≡ true) → others c (filter stays_open (map (changed_flight c g) fs)) ≡ others c fs
all_gone c g same [] still = refl
all_gone c g same (f ∷ fs) still =
    one_gone c g same f fs (filter stays_open (map (changed_flight c g) fs)) (still f (contains_first f fs))
    (all_gone c g same fs (λ x there. still x (contains_more f fs x there))) (f.number == c) refl

answered_anyway : (h : Header) (c : ℕ) (answer : Answer) (fx : Effects) (g : FlightState → FlightState) → ((f : FlightState) → (g f).number ≡ f.number) → (s : MachineState)
    → ((f : FlightState) → Contains s.flights f → stays_open f ≡ true) → stepped_machine h (Told c answer) fx (change_flight c g s) ≡ stepped_machine h (Told c answer) fx s
answered_anyway h c answer fx g same s still =
    ap (λ fs. record (stepped_machine h (Told c answer) fx s) { flights = fold (λ gs x. new_flight h x ∷ gs) fs fx.calls }) (all_gone c g same s.flights still)

shown_flights : (h : Header) (a : Machine) → (shown h a).flights ≡ map (flight_of_course h a) (flights a)
unfolding shown
shown_flights h a = refl

-- All calls in flight stay so.
flights_stay : (k : KeptState) (w : World) → Tells k w → (m : ℕ) (s : MachineState) → machine_in k m ≡ Some s → (f : FlightState) → Contains s.flights f → stays_open f ≡ true
flights_stay k w t m s at f there =
    let a = mapped_value (shown w.header) (machine_at w m) s (sym (machine_shown k w t m) ∙ at) in
    let x = in_map (flight_of_course w.header a.0) (flights a.0) f (subst (λ fs. Contains fs f) (ap (λ (z : MachineState). z.flights) (sym a.2) ∙ shown_flights w.header a.0) there) in
    let still = kept_inside (is_open a.0) a.0.calls x.0 x.1 in
    subst (λ z. stays_open z ≡ true) x.2 (and_true (is_none x.0.answered) (stays_open (flight_of_course w.header a.0 x.0)) (sym (open_is w.header a.0 x.0) ∙ still.1)).1

changed_then_answered : (k : KeptState) (m c : ℕ) (answer : Answer) (fx : Effects) (g : FlightState → FlightState) → ((f : FlightState) → (g f).number ≡ f.number) → (s : MachineState)
    → machine_in k m ≡ Some s → ((f : FlightState) → Contains s.flights f → stays_open f ≡ true)
    → taken_kept m (Some (Told c answer)) fx (change_machine_in m (change_flight c g) k) ≡ taken_kept m (Some (Told c answer)) fx k
changed_then_answered k m c answer fx g same s at still =
    ap (λ h. change_machine_in m (stepped_machine h (Told c answer) fx) (change_machine_in m (change_flight c g) k))
    (ap (λ (x : KeptState). x.header) (changed_is k m (change_flight c g) s at))
    ∙ changed_twice k m (change_flight c g) (stepped_machine k.header (Told c answer) fx) s at
    ∙ ap (with_machine k m) (answered_anyway k.header c answer fx g same s still)
    ∙ sym (changed_is k m (stepped_machine k.header (Told c answer) fx) s at)

written_there : (p : Option Place) (bytes : List ℕ) (k : KeptState) (m : ℕ) → machine_in (write_at p bytes k) m ≡ machine_in k m
written_there None bytes k m = refl
written_there (Some p) bytes k m = refl

pub done_directly : DoneDirectly
unfolding first_kept
done_directly commands k w t is m c f found i gives fx =
    ap (λ o. taken_kept m o fx (completed_in m c k)) gives
    ∙ ap (λ x. taken_kept m (Some i) fx x) (ap completed_by found)
    ∙ go f.write f.flying refl
  where
    completed_by : Option FlightState → KeptState
    completed_by o =
        elim o [
          | None ↦ k
          | Some x ↦ elim x.write [
            | None ↦ change_machine_in m (change_flight c (sampled_flight k (left_in x))) k
            | Some whole ↦ elim x.flying [ true ↦ landed_in m c k | false ↦ k ]
          ]
        ]

    landed_by : Option FlightState → KeptState
    landed_by o =
        elim o [
          | None ↦ k
          | Some x ↦ change_machine_in m (change_flight c landed_flight) (write_at x.place (unwrap_or x.write []) k)
        ]

    at : (s : MachineState) × (machine_in k m ≡ Some s) × (flight_in s c ≡ Some f)
    at = then_value (λ (s : MachineState). flight_in s c) (machine_in k m) f found

    still : (x : FlightState) → Contains at.0.flights x → stays_open x ≡ true
    still = flights_stay k w t m at.0 at.1

    number : f.number ≡ c
    number = (Decides-eqb f.number c).0 (find_inside (λ (x : FlightState). x.number == c) at.0.flights f at.2).1

    given : done_in k f ≡ i
    given = some_value (done_in k f) i (sym (ap (option_and_then (λ (s : MachineState). option_map (done_in k) (flight_in s c))) at.1 ∙ ap (option_map (done_in k)) at.2) ∙ gives)

    told : (write : Option (List ℕ)) → f.write ≡ write → (answer : Answer) × (i ≡ Told c answer)
    told None is = (
      Read (rest_in k f (left_in f)),
      sym given ∙ ap (λ (o : Option (List ℕ)). elim o as (λ x. Input) [ None ↦ Told f.number (Read (rest_in k f (left_in f))) | Some whole ↦ Told f.number Written ]) is
          ∙ ap (λ n. Told n (Read (rest_in k f (left_in f)))) number,
    )
    told (Some whole) is = (
      Written,
      sym given ∙ ap (λ (o : Option (List ℕ)). elim o as (λ x. Input) [ None ↦ Told f.number (Read (rest_in k f (left_in f))) | Some whole ↦ Told f.number Written ]) is
          ∙ ap (λ n. Told n Written) number,
    )

    anyway : (x : KeptState) (g : FlightState → FlightState) → ((y : FlightState) → (g y).number ≡ y.number) → machine_in x m ≡ machine_in k m
        → taken_kept m (Some i) fx (change_machine_in m (change_flight c g) x) ≡ taken_kept m (Some i) fx x
    anyway x g same there =
        let a = told f.write refl in
        subst (λ j. taken_kept m (Some j) fx (change_machine_in m (change_flight c g) x) ≡ taken_kept m (Some j) fx x) (sym a.1)
        (changed_then_answered x m c a.0 fx g same at.0 (there ∙ at.1) still)

    go : (write : Option (List ℕ)) (flying : Bool) → f.write ≡ write
        → taken_kept m (Some i) fx (elim write as (λ z. KeptState) [
          | None ↦ change_machine_in m (change_flight c (sampled_flight k (left_in f))) k
          | Some whole ↦ elim flying as (λ z. KeptState) [ true ↦ landed_in m c k | false ↦ k ]
        ])
        ≡ taken_kept m (Some i) fx (elim write as (λ z. KeptState) [
          | None ↦ k
          | Some whole ↦ elim flying as (λ z. KeptState) [ true ↦ write_at f.place whole k | false ↦ k ]
        ])
    go None flying is = anyway k (sampled_flight k (left_in f)) (λ y. refl) refl
    go (Some whole) true is =
        ap (taken_kept m (Some i) fx) (ap landed_by found ∙ ap (λ o. change_machine_in m (change_flight c landed_flight) (write_at f.place (unwrap_or o []) k)) is)
        ∙ anyway (write_at f.place whole k) landed_flight (λ y. refl) (written_there f.place whole k m)
    go (Some whole) false is = refl
