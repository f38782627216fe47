-- What changes of calls leave: the order of numbers, which are in flight, and the order of cuts.
use Rattle.sl_world_state.specs.Changes.{cut_flight, disowned, stays_open}
use Rattle.sl_world_state.specs.KeptWorld.{FlightState}
use Rattle.sl_world_state.specs.Refusals.{lands}
use Rattle.sl_machine.proofs.FlightLaws.{Falls, fallen, falling, falls_at}
use Rattle.sl_machine.proofs.FlightOrder.{all_at, all_removed, all_set, order_kept, order_pushed, order_removed, order_set}
use Rattle.sl_machine.specs.Flights.{AreFlights, StandsAt, closed_at, ended_flight, falls, flight_numbered, flights_with, flights_without, grown_flight, in_order, is_uncut, late_cut}
use Rattle.sl_machine.specs.declared.flight.Outcome.TheVariants.{Dropped, Landed, Torn}
use Rattle.sl_machine.specs.declared.flight.Outcome.{Outcome}
use Rattle.sl_words.proofs.Lists.{set_here}
use Rattle.sl_words.proofs.CaseLaws.{false_is_true, none_some, some_value}
use Rattle.sl_words.proofs.WordLaws.{and_true}
use Rattle.std.proofs.Common.{ap, ap₂, arith, length, refl, subst, sym, ◌∙◌}
use Rattle.std.proofs.lemmas.Bool.Decides.{nat_tests}
use Rattle.std.specs.List.{list_all, remove, slice_set}
use Rattle.std.specs.Prelude.{Bool, Err, List, None, Ok, OnErr, OnOk, Option, Result, Some, false, filter, if◌then◌else◌, is_none, is_some, map, not, slice_get, suc, true, zero, [], ℕ, ◌&&◌, ◌+◌, ◌<◌, ◌==◌, ◌∷◌, ◌≡◌, ◌≤◌, ◌||◌}

-- ---- the call of a number changes, and no other

abbrev changed : ℕ → (FlightState → FlightState) → FlightState → FlightState
changed c g f = elim (f.number == c) as (λ x. FlightState) [ true ↦ g f | false ↦ f ]

-- Calls of other numbers stay.
other_first : (c : ℕ) (g : FlightState → FlightState) (f : FlightState) (fs : List FlightState) → (f.number == c) ≡ false → stays_open f ≡ true
    → flights_with c g (f ∷ fs) ≡ f ∷ flights_with c g fs
other_first c g f fs other open_ = rw (other, open_) refl

none_with_by : (c : ℕ) (g : FlightState → FlightState) (f : FlightState) (fs : List FlightState) (b : Bool) → (f.number == c) ≡ b
    → (if b then Some f else flight_numbered fs c) ≡ None → stays_open f ≡ true → (flight_numbered fs c ≡ None → flights_with c g fs ≡ fs)
    → flights_with c g (f ∷ fs) ≡ f ∷ fs
none_with_by c g f fs true is h open_ rest = absurd (none_some f (sym h))
none_with_by c g f fs false is h open_ rest = other_first c g f fs is open_ ∙ ap (λ ys. f ∷ ys) (rest h)

pub none_with : (c : ℕ) (g : FlightState → FlightState) (fs : List FlightState) → flight_numbered fs c ≡ None → list_all stays_open fs ≡ true → flights_with c g fs ≡ fs
none_with c g [] none open_ = refl
none_with c g (f ∷ fs) none open_ =
    let both = and_true (stays_open f) (list_all stays_open fs) open_ in
    none_with_by c g f fs (f.number == c) refl none both.0 (λ h. none_with c g fs h both.1)

-- What has lesser numbers alone has none of this one.
below_none : (b c : ℕ) (fs : List FlightState) → Falls b fs → b ≤ c → flight_numbered fs c ≡ None
below_none b c [] fall le = refl
below_none b c (f ∷ fs) fall le =
    let lt = fall.0 in
    let other : (f.number == c) ≡ false = grind (arith, nat_tests, lt, le) in
    rw other (below_none f.number c fs fall.1 (omega (arith, lt, le)))

with_first : (b c : ℕ) (g : FlightState → FlightState) (x : FlightState) (xs : List FlightState) → Falls b (x ∷ xs) → list_all stays_open (x ∷ xs) ≡ true → x.number ≡ c
    → flights_with c g (x ∷ xs) ≡ closed_at zero (g x) (x ∷ xs)
with_first b c g x xs fall open_ is =
    let here : (x.number == c) ≡ true = grind (arith, nat_tests, is) in
    let both = and_true (stays_open x) (list_all stays_open xs) open_ in
    let rest : flights_with c g xs ≡ xs = none_with c g xs (below_none x.number c xs fall.1 (omega (arith, is))) both.1 in
    rw here (by (stays_open (g x)) refl rest)
  where
    by : (o : Bool) → stays_open (g x) ≡ o → flights_with c g xs ≡ xs → filter stays_open (g x ∷ map (changed c g) xs) ≡ closed_at zero (g x) (x ∷ xs)
    by true o rest = rw (closed_at, o) (ap (λ ys. g x ∷ ys) rest)
    by false o rest = rw (closed_at, o) rest

closed_next : (o : Bool) (i : ℕ) (h x : FlightState) (xs : List FlightState) → stays_open h ≡ o → x ∷ closed_at i h xs ≡ closed_at (suc i) h (x ∷ xs)
closed_next true i h x xs o = rw (closed_at, o) refl
closed_next false i h x xs o = rw (closed_at, o) refl

-- The call that stands at a place is the one that changes.
pub with_at : (b c i : ℕ) (g : FlightState → FlightState) (fs : List FlightState) (f : FlightState) → Falls b fs → list_all stays_open fs ≡ true → slice_get fs i ≡ Some f
    → f.number ≡ c → flights_with c g fs ≡ closed_at i (g f) fs
with_at b c i g [] f fall open_ at is = absurd (none_some f at)
with_at b c zero g (x ∷ xs) f fall open_ at is =
    let e : x ≡ f = some_value x f at in
    with_first b c g x xs fall open_ (ap (λ (y : FlightState). y.number) e ∙ is) ∙ ap (λ (y : FlightState). closed_at zero (g y) (x ∷ xs)) e
with_at b c (suc i) g (x ∷ xs) f fall open_ at is =
    let less : f.number < x.number = falls_at x.number i xs f fall.1 at in
    let other : (x.number == c) ≡ false = grind (arith, nat_tests, less, is) in
    let both = and_true (stays_open x) (list_all stays_open xs) open_ in
    other_first c g x xs other both.0 ∙ ap (λ ys. x ∷ ys) (with_at x.number c i g xs f fall.1 both.1 at is) ∙ closed_next (stays_open (g f)) i (g f) x xs refl

-- ---- it goes

none_without_by : (c : ℕ) (f : FlightState) (fs : List FlightState) (b : Bool) → (f.number == c) ≡ b → (if b then Some f else flight_numbered fs c) ≡ None
    → (flight_numbered fs c ≡ None → flights_without c fs ≡ fs) → flights_without c (f ∷ fs) ≡ f ∷ fs
none_without_by c f fs true is h rest = absurd (none_some f (sym h))
none_without_by c f fs false is h rest = rw is (ap (λ ys. f ∷ ys) (rest h))

pub none_without : (c : ℕ) (fs : List FlightState) → flight_numbered fs c ≡ None → flights_without c fs ≡ fs
none_without c [] none = refl
none_without c (f ∷ fs) none = none_without_by c f fs (f.number == c) refl none (none_without c fs)

pub without_at : (b c i : ℕ) (fs : List FlightState) (f : FlightState) → Falls b fs → slice_get fs i ≡ Some f → f.number ≡ c → flights_without c fs ≡ remove fs i
without_at b c i [] f fall at is = absurd (none_some f at)
without_at b c zero (x ∷ xs) f fall at is =
    let e : x.number ≡ c = ap (λ (y : FlightState). y.number) (some_value x f at) ∙ is in
    let here : (x.number == c) ≡ true = grind (arith, nat_tests, e) in
    rw here (none_without c xs (below_none x.number c xs fall.1 (omega (arith, e))))
without_at b c (suc i) (x ∷ xs) f fall at is =
    let less : f.number < x.number = falls_at x.number i xs f fall.1 at in
    let other : (x.number == c) ≡ false = grind (arith, nat_tests, less, is) in
    rw other (ap (λ ys. x ∷ ys) (without_at x.number c i xs f fall.1 at is))

-- ---- order stays

falls_up : (a b : ℕ) (fs : List FlightState) → Falls a fs → a ≤ b → Falls b fs
falls_up a b [] fall le = tt
falls_up a b (f ∷ fs) fall le = let lt = fall.0 in (omega (arith, lt, le), fall.1)

falls_set : (b i : ℕ) (fs : List FlightState) (f h : FlightState) → Falls b fs → slice_get fs i ≡ Some f → h.number ≡ f.number → Falls b (slice_set fs i h)
falls_set b i [] f h fall at same = tt
falls_set b zero (x ∷ xs) f h fall at same =
    let e : h.number ≡ x.number = same ∙ sym (ap (λ (y : FlightState). y.number) (some_value x f at)) in
    (subst (λ n. n < b) (sym e) fall.0, subst (λ n. Falls n xs) (sym e) fall.1)
falls_set b (suc i) (x ∷ xs) f h fall at same = (fall.0, falls_set x.number i xs f h fall.1 at same)

falls_removed : (b i : ℕ) (fs : List FlightState) (f : FlightState) → Falls b fs → slice_get fs i ≡ Some f → Falls b (remove fs i)
falls_removed b i [] f fall at = absurd (none_some f at)
falls_removed b zero (x ∷ xs) f fall at = falls_up x.number b xs fall.1 (let lt = fall.0 in omega (arith, lt))
falls_removed b (suc i) (x ∷ xs) f fall at = (fall.0, falls_removed x.number i xs f fall.1 at)

-- ---- what is known stays

-- A call that has changed so is the one that it was to the order of calls, as long as it is in flight.
pub record IsCloseTo (f h : FlightState) : Type 0 where
  pub number : h.number ≡ f.number
  pub own : h.own ≡ f.own
  pub cut : is_uncut f ≡ true → stays_open h ≡ true → late_cut h ≡ late_cut f

same_uncut : (f h : FlightState) → h.own ≡ f.own → late_cut h ≡ late_cut f → is_uncut f ≡ true → is_uncut h ≡ true
same_uncut f h own cut is = ap₂ (λ o c. not o || is_none c) own cut ∙ is

new_is_uncut : (f : FlightState) → late_cut f ≡ None → is_uncut f ≡ true
new_is_uncut f cut = ap (λ c. not f.own || is_none c) cut ∙ or_true (not f.own)
  where
    or_true : (b : Bool) → (b || true) ≡ true
    or_true true = refl
    or_true false = refl

gone_at : (next : ℕ) (ordered : Bool) (i : ℕ) (fs : List FlightState) (f : FlightState) → AreFlights next ordered fs → slice_get fs i ≡ Some f → AreFlights next ordered (remove fs i)
gone_at next ordered i fs f are at =
    record {
      fall = falling next (remove fs i) (falls_removed next i fs f (fallen next fs are.fall) at);
      open_ = all_removed stays_open fs i f are.open_ at;
      uncut = all_removed is_uncut fs i f are.uncut at;
      older_first = λ is. order_removed i fs f (are.older_first is) at;
    }

closed_by : (o : Bool) (next : ℕ) (ordered : Bool) (fs : List FlightState) (i : ℕ) (f h : FlightState) → AreFlights next ordered fs → slice_get fs i ≡ Some f → IsCloseTo f h
    → stays_open h ≡ o → AreFlights next ordered (closed_at i h fs)
closed_by true next ordered fs i f h are at same o =
    let uncut = all_at is_uncut fs i f are.uncut at in
    rw (closed_at, o)
    (record {
      fall = falling next (slice_set fs i h) (falls_set next i fs f h (fallen next fs are.fall) at same.number);
      open_ = all_set stays_open fs i h are.open_ o;
      uncut = all_set is_uncut fs i h are.uncut (same_uncut f h same.own (same.cut uncut o) uncut);
      older_first = λ is. order_set i fs f h (are.older_first is) at same.own (same.cut uncut o);
    })
closed_by false next ordered fs i f h are at same o = rw (closed_at, o) (gone_at next ordered i fs f are at)

-- A call that has changed, or has gone by its change.
pub closed_are : (next c i : ℕ) (ordered : Bool) (fs items : List FlightState) (g : FlightState → FlightState) → AreFlights next ordered fs → (s : StandsAt fs c i)
    → ((f : FlightState) → IsCloseTo f (g f)) → items ≡ closed_at i (g s.flight) fs → AreFlights next ordered items
closed_are next c i ordered fs items g are s keeps is =
    subst (λ xs. AreFlights next ordered xs) (sym is)
    (closed_by (stays_open (g s.flight)) next ordered fs i s.flight (g s.flight) are s.there (keeps s.flight) refl)

pub closed_is : (next c i : ℕ) (ordered : Bool) (fs items : List FlightState) (g : FlightState → FlightState) → AreFlights next ordered fs → (s : StandsAt fs c i)
    → items ≡ closed_at i (g s.flight) fs → items ≡ flights_with c g fs
closed_is next c i ordered fs items g are s is = is ∙ sym (with_at next c i g fs s.flight (fallen next fs are.fall) are.open_ s.there s.named)

-- The same, where want of memory may have left all as they were.
pub sampled_are : {A E : Type 0} (next c i : ℕ) (ordered : Bool) (fs items : List FlightState) (g : FlightState → FlightState) (r : Result A E) → AreFlights next ordered fs
    → (s : StandsAt fs c i) → ((f : FlightState) → IsCloseTo f (g f)) → OnOk r (items ≡ closed_at i (g s.flight) fs) → OnErr r (items ≡ fs) → AreFlights next ordered items
sampled_are next c i ordered fs items g (Ok x) are s keeps is err = closed_are next c i ordered fs items g are s keeps is
sampled_are next c i ordered fs items g (Err e) are s keeps ok same = subst (λ xs. AreFlights next ordered xs) (sym same) are

-- A call that has gone.
pub removed_are : (next c i : ℕ) (ordered : Bool) (fs items : List FlightState) → AreFlights next ordered fs → (s : StandsAt fs c i) → items ≡ remove fs i
    → AreFlights next ordered items
removed_are next c i ordered fs items are s is = subst (λ xs. AreFlights next ordered xs) (sym is) (gone_at next ordered i fs s.flight are s.there)

pub removed_is : (next c i : ℕ) (ordered : Bool) (fs items : List FlightState) → AreFlights next ordered fs → (s : StandsAt fs c i) → items ≡ remove fs i → items ≡ flights_without c fs
removed_is next c i ordered fs items are s is = is ∙ sym (without_at next c i fs s.flight (fallen next fs are.fall) s.there s.named)

-- A new call, of the daemon that runs where the calls are said to be in order.
pub pushed_are : (next : ℕ) (ordered now : Bool) (f : FlightState) (fs items : List FlightState) → AreFlights next ordered fs → f.number ≡ next → stays_open f ≡ true
    → late_cut f ≡ None → items ≡ f ∷ fs → now ≡ (ordered && f.own) → AreFlights (next + 1) now items
pushed_are next ordered now f fs items are number open_ cut is known =
    subst (λ xs. AreFlights (next + 1) now xs) (sym is)
    (record {
      fall = falling (next + 1) (f ∷ fs) (omega (arith, number), subst (λ n. Falls n fs) (sym number) (fallen next fs are.fall));
      open_ = rw open_ are.open_;
      uncut = rw (new_is_uncut f cut) are.uncut;
      older_first = λ yes. let both = and_true ordered f.own (sym known ∙ yes) in order_pushed f fs both.1 cut (are.older_first both.0);
    })

-- ---- all calls

falls_kept_by : (b : ℕ) (p : FlightState → Bool) (f : FlightState) (fs : List FlightState) (o : Bool) → p f ≡ o → f.number < b → Falls f.number (filter p fs) → Falls b (filter p (f ∷ fs))
falls_kept_by b p f fs true o lt rest = rw o (lt, rest)
falls_kept_by b p f fs false o lt rest = rw o (falls_up f.number b (filter p fs) rest (omega (arith, lt)))

falls_kept : (b : ℕ) (p : FlightState → Bool) (fs : List FlightState) → Falls b fs → Falls b (filter p fs)
falls_kept b p [] fall = tt
falls_kept b p (f ∷ fs) fall = falls_kept_by b p f fs (p f) refl fall.0 (falls_kept f.number p fs fall.1)

falls_mapped : (b : ℕ) (g : FlightState → FlightState) (fs : List FlightState) → ((f : FlightState) → (g f).number ≡ f.number) → Falls b fs → Falls b (map g fs)
falls_mapped b g [] same fall = tt
falls_mapped b g (f ∷ fs) same fall =
    (subst (λ n. n < b) (sym (same f)) fall.0, subst (λ n. Falls n (map g fs)) (sym (same f)) (falls_mapped f.number g fs same fall.1))

open_mapped_by : (g : FlightState → FlightState) (f : FlightState) (fs : List FlightState) (o : Bool) → lands f ≡ o → (lands f ≡ true → stays_open (g f) ≡ true)
    → list_all stays_open (map g (filter lands fs)) ≡ true → list_all stays_open (map g (filter lands (f ∷ fs))) ≡ true
open_mapped_by g f fs true o keeps rest = rw (o, keeps o) rest
open_mapped_by g f fs false o keeps rest = rw o rest

open_mapped : (g : FlightState → FlightState) (fs : List FlightState) → ((f : FlightState) → lands f ≡ true → stays_open (g f) ≡ true)
    → list_all stays_open (map g (filter lands fs)) ≡ true
open_mapped g [] keeps = refl
open_mapped g (f ∷ fs) keeps = open_mapped_by g f fs (lands f) refl (keeps f) (open_mapped g fs keeps)

ended_uncut : (g : FlightState → FlightState) (fs : List FlightState) → ((f : FlightState) → (g f).own ≡ false) → list_all is_uncut (map g fs) ≡ true
ended_uncut g [] ended = refl
ended_uncut g (f ∷ fs) ended = rw (ended f) (ended_uncut g fs ended)

-- The writes alone, each changed so that it stays a write in flight, of an ended daemon.
pub mapped_are : (next : ℕ) (ordered now : Bool) (fs items : List FlightState) (g : FlightState → FlightState) → AreFlights next ordered fs
    → ((f : FlightState) → (g f).number ≡ f.number) → ((f : FlightState) → (g f).own ≡ false) → ((f : FlightState) → lands f ≡ true → stays_open (g f) ≡ true)
    → items ≡ map g (filter lands fs) → (now ≡ true → in_order items ≡ true) → AreFlights next now items
mapped_are next ordered now fs items g are same ended keeps is order =
    record {
      fall = ap (falls next) is ∙ falling next (map g (filter lands fs)) (falls_mapped next g (filter lands fs) same (falls_kept next lands fs (fallen next fs are.fall)));
      open_ = ap (list_all stays_open) is ∙ open_mapped g fs keeps;
      uncut = ap (list_all is_uncut) is ∙ ended_uncut g (filter lands fs) ended;
      older_first = order;
    }

-- A daemon that ends leaves its writes in order.
pub disowned_order : (next : ℕ) (ordered : Bool) (fs items : List FlightState) → AreFlights next ordered fs → items ≡ map disowned (filter lands fs)
    → ordered ≡ true → in_order items ≡ true
disowned_order next ordered fs items are is known = ap in_order is ∙ order_kept lands fs (are.older_first known)

-- ---- the changes themselves

pub cut_open : (moment : ℕ) (f : FlightState) → lands f ≡ true → stays_open (cut_flight moment f) ≡ true
cut_open moment f is = is

pub disowned_open : (f : FlightState) → lands f ≡ true → stays_open (disowned f) ≡ true
disowned_open f is = is

-- A call that lands, and is in flight still, is of the daemon that runs: it had no cut.
ended_cut : (own writes flying : Bool) (r : Option ℕ) → (not own || is_none (elim (writes && flying) as (λ x. Option ℕ) [ false ↦ None | true ↦ r ])) ≡ true
    → (own || writes && false) ≡ true → elim (writes && false) as (λ x. Option ℕ) [ false ↦ None | true ↦ r ] ≡ elim (writes && flying) as (λ x. Option ℕ) [ false ↦ None | true ↦ r ]
ended_cut false true flying r uncut o = absurd (false_is_true o)
ended_cut false false flying r uncut o = absurd (false_is_true o)
ended_cut true false flying r uncut o = refl
ended_cut true true false r uncut o = refl
ended_cut true true true None uncut o = refl
ended_cut true true true (Some n) uncut o = absurd (false_is_true uncut)

pub ended_keeps : (o : Outcome) (f : FlightState) → IsCloseTo f (ended_flight o f)
ended_keeps Landed f = record { number = refl; own = refl; cut = ended_cut f.own (is_some f.write) f.flying f.cut }
ended_keeps Torn f = record { number = refl; own = refl; cut = ended_cut f.own (is_some f.write) f.flying f.cut }
ended_keeps Dropped f = record { number = refl; own = refl; cut = ended_cut f.own (is_some f.write) f.flying f.cut }

remove_set : {A : Type 0} (xs : List A) (i : ℕ) (a : A) → remove (slice_set xs i a) i ≡ remove xs i
remove_set [] i a = refl
remove_set (x ∷ xs) zero a = refl
remove_set (x ∷ xs) (suc i) a = ap (λ ys. x ∷ ys) (remove_set xs i a)

-- A call that was changed at its place, and is closed.
pub closing : (i : ℕ) (fs items : List FlightState) (f h : FlightState) → slice_get fs i ≡ Some f
    → ((y : FlightState) → slice_get (slice_set fs i h) i ≡ Some y → stays_open y ≡ true → items ≡ slice_set fs i h)
    → ((y : FlightState) → slice_get (slice_set fs i h) i ≡ Some y → stays_open y ≡ false → items ≡ remove (slice_set fs i h) i) → items ≡ closed_at i h fs
closing i fs items f h there opened closed = by (stays_open h) refl
  where
    by : (o : Bool) → stays_open h ≡ o → items ≡ closed_at i h fs
    by true o = rw (closed_at, o) (opened h (set_here fs i h f there) o)
    by false o = rw (closed_at, o) (closed h (set_here fs i h f there) o ∙ remove_set fs i h)

pub grown_keeps : (bytes : List ℕ) (n : ℕ) (f : FlightState) → IsCloseTo f (grown_flight bytes n f)
grown_keeps bytes n f = record { number = refl; own = refl; cut = λ uncut o. refl }

-- ---- two changes that are one on the call

map_none : (c : ℕ) (g h : FlightState → FlightState) (fs : List FlightState) → flight_numbered fs c ≡ None → map (changed c g) fs ≡ map (changed c h) fs
map_none c g h [] none = refl
map_none c g h (f ∷ fs) none = map_none_by c g h f fs (f.number == c) refl none (map_none c g h fs)
  where
    map_none_by : (c : ℕ) (g h : FlightState → FlightState) (f : FlightState) (fs : List FlightState) (b : Bool) → (f.number == c) ≡ b
        → (if b then Some f else flight_numbered fs c) ≡ None → (flight_numbered fs c ≡ None → map (changed c g) fs ≡ map (changed c h) fs)
        → map (changed c g) (f ∷ fs) ≡ map (changed c h) (f ∷ fs)
    map_none_by c g h f fs true is none rest = absurd (none_some f (sym none))
    map_none_by c g h f fs false is none rest = rw (changed, is) (ap (λ ys. f ∷ ys) (rest none))

map_same_by : (n c : ℕ) (g h : FlightState → FlightState) (f : FlightState) (fs : List FlightState) (b : Bool) → (f.number == c) ≡ b → Falls n (f ∷ fs)
    → ((x : FlightState) → (if b then Some f else flight_numbered fs c) ≡ Some x → g x ≡ h x)
    → (((x : FlightState) → flight_numbered fs c ≡ Some x → g x ≡ h x) → map (changed c g) fs ≡ map (changed c h) fs)
    → map (changed c g) (f ∷ fs) ≡ map (changed c h) (f ∷ fs)
map_same_by n c g h f fs true is fall same rest =
    let le : f.number ≤ c = grind (arith, nat_tests, is) in
    rw (changed, is) (ap₂ (λ y ys. y ∷ ys) (same f refl) (map_none c g h fs (below_none f.number c fs fall.1 le)))
map_same_by n c g h f fs false is fall same rest = rw (changed, is) (ap (λ ys. f ∷ ys) (rest same))

map_same : (n c : ℕ) (g h : FlightState → FlightState) (fs : List FlightState) → Falls n fs → ((x : FlightState) → flight_numbered fs c ≡ Some x → g x ≡ h x)
    → map (changed c g) fs ≡ map (changed c h) fs
map_same n c g h [] fall same = refl
map_same n c g h (f ∷ fs) fall same = map_same_by n c g h f fs (f.number == c) refl fall same (map_same f.number c g h fs fall.1)

pub same_with : (n c : ℕ) (ordered : Bool) (g h : FlightState → FlightState) (fs : List FlightState) → AreFlights n ordered fs
    → ((x : FlightState) → flight_numbered fs c ≡ Some x → g x ≡ h x) → flights_with c g fs ≡ flights_with c h fs
same_with n c ordered g h fs are same = ap (filter stays_open) (map_same n c g h fs (fallen n fs are.fall) same)

-- ---- a call that has changed, and is then answered

without_by : (c : ℕ) (g : FlightState → FlightState) (f : FlightState) (fs : List FlightState) (b : Bool) → (f.number == c) ≡ b → ((x : FlightState) → (g x).number ≡ x.number)
    → stays_open f ≡ true → flights_without c (flights_with c g fs) ≡ flights_without c fs → (o : Bool) → stays_open (g f) ≡ o
    → flights_without c (flights_with c g (f ∷ fs)) ≡ flights_without c (f ∷ fs)
without_by c g f fs false is same open_ rest o opens = rw (changed, is, open_, is) (ap (λ ys. f ∷ ys) rest)
without_by c g f fs true is same open_ rest true opens = rw (changed, is, opens, same f, is) rest
without_by c g f fs true is same open_ rest false opens = rw (changed, is, opens) rest

pub answered_after : (c : ℕ) (g : FlightState → FlightState) (fs : List FlightState) → ((x : FlightState) → (g x).number ≡ x.number) → list_all stays_open fs ≡ true
    → flights_without c (flights_with c g fs) ≡ flights_without c fs
answered_after c g [] same open_ = refl
answered_after c g (f ∷ fs) same open_ =
    let both = and_true (stays_open f) (list_all stays_open fs) open_ in
    without_by c g f fs (f.number == c) refl same both.0 (answered_after c g fs same both.1) (stays_open (g f)) refl

-- Of one call that goes nothing is left.
pub remove_only : {A : Type 0} (xs : List A) (i : ℕ) → length xs ≡ 1 → i < length xs → [] ≡ remove xs i
remove_only [] i one inside = absurd (omega (arith, inside))
remove_only (x ∷ []) zero one inside = refl
remove_only (x ∷ []) (suc i) one inside = absurd (omega (arith, inside))
remove_only (x ∷ y ∷ xs) i one inside = absurd (omega (arith, one))
