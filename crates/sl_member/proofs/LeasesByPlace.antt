-- Where a lease stands among leases by place, and what a change there makes of them.
use Rattle.sl_host_state.specs.KeptState.{LeaseState, PairState}
use Rattle.sl_host_state.specs.MadeEffects.{is_lease_on, new_lease}
use Rattle.sl_host_state.specs.declared.kept_parts.LeaseCall.{LeaseCall}
use Rattle.sl_lease.specs.Changes.{after_write, read_told, turn_told, write_told}
use Rattle.sl_lease.specs.declared.side.Side.{Side}
use Rattle.sl_trace.specs.Leases.{is_spot_before}
use Rattle.sl_member.proofs.SpotOrder.{same_itself, spot_apart, spot_asym, spot_is, spot_past, spot_same, spot_trans}
use Rattle.sl_member.specs.Leases.{AreByPlace, IsFound, IsGap, IsPlaceOf, IsThere, LeasesState, changed_at, kept_shown, lease_called, read_shown, with_lease}
use Rattle.sl_sector.specs.declared.sector.Block.{Block}
use Rattle.sl_sector.specs.declared.sector.Leader.{Leader}
use Rattle.sl_sector.specs.declared.sector.PairBlock.{PairBlock}
use Rattle.sl_sector.specs.declared.sector.Rec.TheVariants.{BlockIs, LeaderIs, PairIs, PairLeaderIs}
use Rattle.sl_trace.specs.Traces.{same_spot}
use Rattle.sl_trace.specs.declared.effects.LeaseStep.{LeaseStep}
use Rattle.sl_trace.specs.declared.effects.Op.TheVariants.{WriteRecord}
use Rattle.sl_trace.specs.declared.effects.Op.{Op}
use Rattle.sl_trace.specs.declared.effects.Spot.{Spot}
use Rattle.sl_trace.specs.declared.effects.Work.{Work}
use Rattle.sl_words.proofs.CaseLaws.{none_some, some_value, true_is_false}
use Rattle.sl_words.specs.Orders.{put_in}
use Rattle.std.proofs.Common.{ap, arith, refl, subst, suc, sym, zero, ◌∙◌}
use Rattle.std.specs.List.{AllByRecursion, insert, list_any}
use Rattle.std.specs.List.Sorted.{IsPartitionPoint, IsPartitionedBy}
use Rattle.std.specs.Prelude.{Bool, List, None, Option, Some, cond, false, find, if◌then◌else◌, length, slice_get, slice_index_or, slice_set, true, [], ℕ, ◌-◌, ◌<◌, ◌∷◌, ◌≡◌, ◌≤◌, ◌||◌}

-- ---- where a bisection ends

-- Whether a lease comes before the area.
abbrev pub is_low : Spot → LeaseState → Bool
is_low at l = is_spot_before l.spot at

low_first : (at : Spot) (l : LeaseState) (ls : List LeaseState) → AllByRecursion (λ k. is_spot_before l.spot k.spot ≡ true) ls → (j : ℕ) (d : LeaseState) → j < length ls
    → is_spot_before (slice_index_or ls j d).spot at ≡ true → is_spot_before l.spot at ≡ true
low_first at l [] rising j d inside is = absurd (omega (arith, inside))
low_first at l (k ∷ ks) rising zero d inside is = spot_trans l.spot k.spot at rising.0 is
low_first at l (k ∷ ks) rising (suc j) d inside is = low_first at l ks rising.1 j d (omega (arith, inside)) is

-- No lease that comes before the area stands behind one that doesn't.
pub low_parts : (at : Spot) (ls : List LeaseState) → AreByPlace ls → IsPartitionedBy (is_low at) ls
low_parts at [] rising i j d le inside is = absurd (omega (arith, inside))
low_parts at (l ∷ ls) rising zero zero d le inside is = is
low_parts at (l ∷ ls) rising zero (suc j) d le inside is = low_first at l ls rising.0 j d (omega (arith, inside)) is
low_parts at (l ∷ ls) rising (suc i) zero d le inside is = absurd (omega (arith, le))
low_parts at (l ∷ ls) rising (suc i) (suc j) d le inside is = low_parts at ls rising.1 i j d (omega (arith, le)) (omega (arith, inside)) is

pub place_from_parts : (at : Spot) (ls : List LeaseState) (k : ℕ) → k ≤ length ls → IsPartitionPoint (λ l. is_low at l ≡ true) (λ l. is_low at l ≡ false) ls k → IsPlaceOf at ls k
place_from_parts at [] zero le parts = tt
place_from_parts at [] (suc k) le parts = absurd (omega (arith, le))
place_from_parts at (l ∷ ls) zero le parts = parts.1 zero l (omega arith) (omega arith)
place_from_parts at (l ∷ ls) (suc k) le parts = (
  parts.0 zero l (omega arith) (omega arith),
  place_from_parts at ls k (omega (arith, le))
      ((λ j d from to. parts.0 (suc j) d (omega arith) (omega (arith, to))), (λ j d from to. parts.1 (suc j) d (omega (arith, from)) (omega (arith, to)))),
)

-- ---- the lease on an area

none_after : (at : Spot) (l : LeaseState) (ls : List LeaseState) → is_lease_on at l ≡ true → AllByRecursion (λ k. is_spot_before l.spot k.spot ≡ true) ls
    → AllByRecursion (λ k. is_lease_on at k ≡ false) ls
none_after at l [] on rising = tt
none_after at l (k ∷ ks) on rising =
    (subst (λ s. same_spot s k.spot ≡ false) (sym (spot_is at l.spot on)) (spot_past l.spot k.spot rising.0), none_after at l ks on rising.1)

pub none_changed : (at : Spot) (f : LeaseState → LeaseState) (ls : List LeaseState) → AllByRecursion (λ k. is_lease_on at k ≡ false) ls → changed_at at f ls ≡ ls
none_changed at f [] none = refl
none_changed at f (k ∷ ks) none = ap (λ b. cond b (f k) k ∷ changed_at at f ks) none.0 ∙ ap (λ zs. k ∷ zs) (none_changed at f ks none.1)

none_there : (at : Spot) (ls : List LeaseState) → AllByRecursion (λ k. is_lease_on at k ≡ false) ls → list_any (is_lease_on at) ls ≡ false
none_there at [] none = refl
none_there at (k ∷ ks) none = ap (λ b. b || list_any (is_lease_on at) ks) none.0 ∙ none_there at ks none.1

none_found : (at : Spot) (ls : List LeaseState) → AllByRecursion (λ k. is_lease_on at k ≡ false) ls → find (is_lease_on at) ls ≡ None
none_found at [] none = refl
none_found at (k ∷ ks) none = ap (λ b. cond b (Some k) (find (is_lease_on at) ks)) none.0 ∙ none_found at ks none.1

further : {at : Spot} {x : LeaseState} {xs : List LeaseState} {k : ℕ} {l : LeaseState} → IsThere at (x ∷ xs) (suc k) l → IsThere at xs k l
further {at} {x} {xs} {k} {l} h = record { place = h.place.1; there = h.there; on = h.on }

-- It is the one that is found, and the one that a change of the area's lease changes.
pub there_any : (at : Spot) (ls : List LeaseState) (k : ℕ) (l : LeaseState) → IsThere at ls k l → list_any (is_lease_on at) ls ≡ true
there_any at [] k l h = absurd (none_some l h.there)
there_any at (x ∷ xs) zero l h = ap (λ b. b || list_any (is_lease_on at) xs) (ap (is_lease_on at) (some_value x l h.there) ∙ h.on)
there_any at (x ∷ xs) (suc k) l h = ap (λ b. b || list_any (is_lease_on at) xs) (spot_apart x.spot at h.place.0) ∙ there_any at xs k l (further h)

pub there_found : (at : Spot) (ls : List LeaseState) (k : ℕ) (l : LeaseState) → IsThere at ls k l → find (is_lease_on at) ls ≡ Some l
there_found at [] k l h = absurd (none_some l h.there)
there_found at (x ∷ xs) zero l h =
    let same = some_value x l h.there in ap (λ b. cond b (Some x) (find (is_lease_on at) xs)) (ap (is_lease_on at) same ∙ h.on) ∙ ap (λ z. Some z) same
there_found at (x ∷ xs) (suc k) l h = ap (λ b. cond b (Some x) (find (is_lease_on at) xs)) (spot_apart x.spot at h.place.0) ∙ there_found at xs k l (further h)

pub there_changed : (at : Spot) (f : LeaseState → LeaseState) (ls : List LeaseState) (k : ℕ) (l : LeaseState) → AreByPlace ls → IsThere at ls k l
    → changed_at at f ls ≡ slice_set ls k (f l)
there_changed at f [] k l rising h = absurd (none_some l h.there)
there_changed at f (x ∷ xs) zero l rising h =
    let same = some_value x l h.there in
    let on : is_lease_on at x ≡ true = ap (is_lease_on at) same ∙ h.on in
    ap (λ b. cond b (f x) x ∷ changed_at at f xs) on ∙ ap (λ zs. f x ∷ zs) (none_changed at f xs (none_after at x xs on rising.0)) ∙ ap (λ z. f z ∷ xs) same
there_changed at f (x ∷ xs) (suc k) l rising h =
    ap (λ b. cond b (f x) x ∷ changed_at at f xs) (spot_apart x.spot at h.place.0) ∙ ap (λ zs. x ∷ zs) (there_changed at f xs k l rising.1 (further h))

-- ---- no lease on an area

gap_further : {at : Spot} {x : LeaseState} {xs : List LeaseState} {k : ℕ} → IsGap at (x ∷ xs) (suc k) → IsGap at xs k
gap_further {at} {x} {xs} {k} h = record { inside = omega (arith, h.inside); place = h.place.1; other = h.other }

-- The area comes before what stands at the place.
before_next : (at : Spot) (l : LeaseState) → is_low at l ≡ false → is_lease_on at l ≡ false → is_spot_before at l.spot ≡ true
before_next at l low off = by (is_spot_before at l.spot) refl where
  by : (b : Bool) → is_spot_before at l.spot ≡ b → is_spot_before at l.spot ≡ true
  by true is = is
  by false is = absurd (true_is_false (sym (same_itself at) ∙ ap (λ s. same_spot at s) (spot_same at l.spot is low) ∙ off))

before_rest : (at : Spot) (l : LeaseState) (ls : List LeaseState) → is_spot_before at l.spot ≡ true → AllByRecursion (λ k. is_spot_before l.spot k.spot ≡ true) ls
    → AllByRecursion (λ k. is_spot_before at k.spot ≡ true) ls
before_rest at l [] first rising = tt
before_rest at l (k ∷ ks) first rising = (spot_trans at l.spot k.spot first rising.0, before_rest at l ks first rising.1)

off_all : (at : Spot) (ls : List LeaseState) → AllByRecursion (λ k. is_spot_before at k.spot ≡ true) ls → AllByRecursion (λ k. is_lease_on at k ≡ false) ls
off_all at [] h = tt
off_all at (k ∷ ks) h = (spot_past at k.spot h.0, off_all at ks h.1)

pub gap_none : (at : Spot) (ls : List LeaseState) (k : ℕ) → AreByPlace ls → IsGap at ls k → AllByRecursion (λ l. is_lease_on at l ≡ false) ls
gap_none at [] k rising h = tt
gap_none at (x ∷ xs) zero rising h =
    let first = before_next at x h.place h.other in (h.other, off_all at xs (before_rest at x xs first rising.0))
gap_none at (x ∷ xs) (suc k) rising h = (spot_apart x.spot at h.place.0, gap_none at xs k rising.1 (gap_further h))

pub gap_any : (at : Spot) (ls : List LeaseState) (k : ℕ) → AreByPlace ls → IsGap at ls k → list_any (is_lease_on at) ls ≡ false
gap_any at ls k rising h = none_there at ls (gap_none at ls k rising h)

pub gap_found : (at : Spot) (ls : List LeaseState) (k : ℕ) → AreByPlace ls → IsGap at ls k → find (is_lease_on at) ls ≡ None
gap_found at ls k rising h = none_found at ls (gap_none at ls k rising h)

pub gap_changed : (at : Spot) (f : LeaseState → LeaseState) (ls : List LeaseState) (k : ℕ) → AreByPlace ls → IsGap at ls k → changed_at at f ls ≡ ls
gap_changed at f ls k rising h = none_changed at f ls (gap_none at ls k rising h)

put_if : (x y : LeaseState) (ys : List LeaseState) (b : Bool) → is_spot_before x.spot y.spot ≡ b
    → put_in (λ a c. is_spot_before a.spot c.spot) x (y ∷ ys) ≡ (if b then x ∷ y ∷ ys else y ∷ put_in (λ a c. is_spot_before a.spot c.spot) x ys)
put_if x y ys b is = ap (λ t. if t then x ∷ y ∷ ys else y ∷ put_in (λ a c. is_spot_before a.spot c.spot) x ys) is

-- One put in stands at the place.
pub gap_put : (l : LeaseState) (ls : List LeaseState) (k : ℕ) → IsGap l.spot ls k → put_in (λ a b. is_spot_before a.spot b.spot) l ls ≡ insert ls k l
gap_put l [] zero h = refl
gap_put l [] (suc k) h = absurd h.place
gap_put l (x ∷ xs) zero h = put_if l x xs true (before_next l.spot x h.place h.other)
gap_put l (x ∷ xs) (suc k) h = put_if l x xs false (spot_asym x.spot l.spot h.place.0) ∙ ap (λ zs. x ∷ zs) (gap_put l xs k (gap_further h))

after_insert : (x l : LeaseState) (xs : List LeaseState) (k : ℕ) → is_spot_before x.spot l.spot ≡ true → AllByRecursion (λ y. is_spot_before x.spot y.spot ≡ true) xs
    → AllByRecursion (λ y. is_spot_before x.spot y.spot ≡ true) (insert xs k l)
after_insert x l xs zero first rising = (first, rising)
after_insert x l [] (suc k) first rising = (first, tt)
after_insert x l (y ∷ ys) (suc k) first rising = (rising.0, after_insert x l ys k first rising.1)

pub gap_rises : (l : LeaseState) (ls : List LeaseState) (k : ℕ) → AreByPlace ls → IsGap l.spot ls k → AreByPlace (insert ls k l)
gap_rises l [] zero rising h = (tt, tt)
gap_rises l [] (suc k) rising h = absurd h.place
gap_rises l (x ∷ xs) zero rising h =
    let first = before_next l.spot x h.place h.other in ((first, before_rest l.spot x xs first rising.0), rising)
gap_rises l (x ∷ xs) (suc k) rising h = (after_insert x l xs k h.place.0 rising.0, gap_rises l xs k rising.1 (gap_further h))

-- ---- a lease that stays where it is

after_set : (x l y : LeaseState) (xs : List LeaseState) (k : ℕ) → slice_get xs k ≡ Some l → y.spot ≡ l.spot → AllByRecursion (λ z. is_spot_before x.spot z.spot ≡ true) xs
    → AllByRecursion (λ z. is_spot_before x.spot z.spot ≡ true) (slice_set xs k y)
after_set x l y [] k there same rising = tt
after_set x l y (z ∷ zs) zero there same rising =
    (subst (λ s. is_spot_before x.spot s ≡ true) (ap (λ w. w.spot) (some_value z l there) ∙ sym same) rising.0, rising.1)
after_set x l y (z ∷ zs) (suc k) there same rising = (rising.0, after_set x l y zs k there same rising.1)

before_all : (s t : Spot) (xs : List LeaseState) → s ≡ t → AllByRecursion (λ z. is_spot_before s z.spot ≡ true) xs → AllByRecursion (λ z. is_spot_before t z.spot ≡ true) xs
before_all s t xs same rising = subst (λ u. AllByRecursion (λ z. is_spot_before u z.spot ≡ true) xs) same rising

pub set_rises : (ls : List LeaseState) (k : ℕ) (l y : LeaseState) → AreByPlace ls → slice_get ls k ≡ Some l → y.spot ≡ l.spot → AreByPlace (slice_set ls k y)
set_rises [] k l y rising there same = tt
set_rises (x ∷ xs) zero l y rising there same = (before_all x.spot y.spot xs (ap (λ w. w.spot) (some_value x l there) ∙ sym same) rising.0, rising.1)
set_rises (x ∷ xs) (suc k) l y rising there same = (after_set x l y xs k there same rising.0, set_rises xs k l y rising.1 there same)

-- ---- for the code

get_at : (ls : List LeaseState) (k : ℕ) (d l : LeaseState) → slice_get ls k ≡ Some l → slice_index_or ls k d ≡ l
get_at [] k d l h = absurd (none_some l h)
get_at (x ∷ xs) zero d l h = some_value x l h
get_at (x ∷ xs) (suc k) d l h = get_at xs k d l h

-- What is read at the place is the lease.
pub found_value : (at : Spot) (ls : List LeaseState) (k : ℕ) (x : LeaseState) → IsFound at ls k → x ≡ slice_index_or ls k x → Some x ≡ find (is_lease_on at) ls
found_value at ls k x h is = ap (λ z. Some z) (is ∙ get_at ls k x h.item h.is.there) ∙ sym (there_found at ls k h.item h.is)

-- A lease that is changed at its place is the area's that is changed.
pub changed_there : (at : Spot) (f : LeaseState → LeaseState) (ls : List LeaseState) (k : ℕ) (x y : LeaseState) → AreByPlace ls → IsFound at ls k → x ≡ slice_index_or ls k x
    → y ≡ f x → slice_set ls k y ≡ changed_at at f ls
changed_there at f ls k x y rising h is made =
    let same : x ≡ h.item = is ∙ get_at ls k x h.item h.is.there in
    ap (slice_set ls k) (made ∙ ap f same) ∙ sym (there_changed at f ls k h.item rising h.is)

pub changed_rises : (at : Spot) (ls : List LeaseState) (k : ℕ) (x y : LeaseState) → AreByPlace ls → IsFound at ls k → x ≡ slice_index_or ls k x → y.spot ≡ x.spot
    → AreByPlace (slice_set ls k y)
changed_rises at ls k x y rising h is same =
    set_rises ls k h.item y rising h.is.there (same ∙ ap (λ z. z.spot) (is ∙ get_at ls k x h.item h.is.there))

-- What is kept, by its parts.
abbrev pub kept_as : List LeaseState → ℕ → LeasesState
kept_as items room = record { leases = items; room = room }

-- ---- the lease at a place that is looked at first

later_there : (x : Spot) (ls : List LeaseState) (k : ℕ) (l : LeaseState) → AllByRecursion (λ y. is_spot_before x y.spot ≡ true) ls → slice_get ls k ≡ Some l
    → is_spot_before x l.spot ≡ true
later_there x [] k l rising there = absurd (none_some l there)
later_there x (y ∷ ys) zero l rising there = subst (λ (z : LeaseState). is_spot_before x z.spot ≡ true) (some_value y l there) rising.0
later_there x (y ∷ ys) (suc k) l rising there = later_there x ys k l rising.1 there

not_itself : (x : Spot) → is_spot_before x x ≡ false
not_itself x = by (is_spot_before x x) refl where
  by : (b : Bool) → is_spot_before x x ≡ b → is_spot_before x x ≡ false
  by true is = spot_asym x x is
  by false is = is

-- It stands at the place of its area.
place_there : (at : Spot) (ls : List LeaseState) (k : ℕ) (l : LeaseState) → AreByPlace ls → slice_get ls k ≡ Some l → is_lease_on at l ≡ true → IsPlaceOf at ls k
place_there at [] k l rising there on = absurd (none_some l there)
place_there at (x ∷ xs) zero l rising there on =
    subst (λ s. is_spot_before x.spot s ≡ false) (ap (λ (z : LeaseState). z.spot) (some_value x l there) ∙ sym (spot_is at l.spot on)) (not_itself x.spot)
place_there at (x ∷ xs) (suc k) l rising there on =
    (subst (λ s. is_spot_before x.spot s ≡ true) (sym (spot_is at l.spot on)) (later_there x.spot xs k l rising.0 there), place_there at xs k l rising.1 there on)

inside_there : (ls : List LeaseState) (k : ℕ) (l : LeaseState) → slice_get ls k ≡ Some l → k < length ls
inside_there [] k l there = absurd (none_some l there)
inside_there (x ∷ xs) zero l there = omega arith
inside_there (x ∷ xs) (suc k) l there = let rest : k < length xs = inside_there xs k l there in omega (arith, rest)

pub get_there : (ls : List LeaseState) (k : ℕ) (l : LeaseState) → k < length ls → l ≡ slice_index_or ls k l → slice_get ls k ≡ Some l
get_there [] k l inside is = absurd (omega (arith, inside))
get_there (x ∷ xs) zero l inside is = ap (λ z. Some z) (sym is)
get_there (x ∷ xs) (suc k) l inside is = get_there xs k l (omega (arith, inside)) is

pub found_there : (at : Spot) (ls : List LeaseState) (k : ℕ) (l : LeaseState) → AreByPlace ls → slice_get ls k ≡ Some l → is_lease_on at l ≡ true → IsFound at ls k
found_there at ls k l rising there on =
    record { inside = inside_there ls k l there; item = l; is = record { place = place_there at ls k l rising there on; there = there; on = on } }

pub found_in : (at : Spot) (ls items : List LeaseState) (k : ℕ) → ls ≡ items → IsFound at ls k → IsFound at items k
found_in at ls items k same h = subst (λ xs. IsFound at xs k) same h

pub gap_in : (at : Spot) (ls items : List LeaseState) (k : ℕ) → ls ≡ items → IsGap at ls k → IsGap at items k
gap_in at ls items k same h = subst (λ xs. IsGap at xs k) same h

-- The lease on the area is changed: what is kept then.
pub found_kept : (at : Spot) (f : LeaseState → LeaseState) (v : LeasesState) (ls items : List LeaseState) (room k : ℕ) (x y : LeaseState) → AreByPlace items → ls ≡ items
    → IsFound at ls k → x ≡ slice_index_or items k x → y ≡ f x → kept_as items room ≡ v → kept_as (slice_set items k y) room ≡ record v { leases = changed_at at f v.leases }
found_kept at f v ls items room k x y rising same h is made view =
    ap (λ zs. kept_as zs room) (changed_there at f items k x y rising (found_in at ls items k same h) is made)
    ∙ ap (λ (w : LeasesState). kept_as (changed_at at f w.leases) w.room) view

-- None is on it: what is kept stays.
pub gap_kept : (at : Spot) (f : LeaseState → LeaseState) (v : LeasesState) (ls items : List LeaseState) (room k : ℕ) → AreByPlace items → ls ≡ items → IsGap at ls k
    → kept_as items room ≡ v → v ≡ record v { leases = changed_at at f v.leases }
gap_kept at f v ls items room k rising same h view =
    subst (λ (w : LeasesState). w ≡ record w { leases = changed_at at f w.leases }) view
    (sym (ap (λ zs. kept_as zs room) (gap_changed at f items k rising (gap_in at ls items k same h))))

-- A lease stays on its area.
pub called_stays : (number : ℕ) (work : Work) (step : LeaseStep) (op : Op) (l : LeaseState) → (lease_called number work step op l).spot ≡ l.spot
called_stays number work step (WriteRecord (BlockIs b)) l = refl
called_stays number work step (WriteRecord (LeaderIs d)) l = refl
called_stays number work step (WriteRecord (PairIs p)) l = refl
called_stays number work step (WriteRecord (PairLeaderIs d)) l = refl
called_stays number work step op l = refl

pub read_stays : (z : Side) (turn : Option ℕ) (heeded : Bool) (d : Option Leader) (read : List (Option Block)) (l : LeaseState) → (read_shown z turn heeded d read l).spot ≡ l.spot
read_stays z turn heeded d read l = by l.waiting where
  by : (o : Option LeaseCall) → (let m : LeaseState = elim o [ None ↦ turn_told turn l | Some w ↦ read_told z heeded w.step d read (turn_told turn l) ] in m.spot) ≡ l.spot
  by None = refl
  by (Some w) = refl

pub write_stays : (l : LeaseState) → (after_write l).spot ≡ l.spot
write_stays l = by l.waiting where
  by : (o : Option LeaseCall) → (let m : LeaseState = elim o [ None ↦ l | Some w ↦ write_told w l ] in m.spot) ≡ l.spot
  by None = refl
  by (Some w) = refl

pub kept_stays : (turn : Option ℕ) (pairs : List (Option PairBlock)) (l : LeaseState) → (kept_shown turn pairs l).spot ≡ l.spot
kept_stays turn pairs l = by l.waiting where
  kept : LeaseState
  kept = let s : LeaseState = turn_told turn l in let p : PairState = s.pair in record s { waiting = None; pair = record p { first = Some pairs } }

  by : (o : Option LeaseCall) → (let m : LeaseState = elim o [ None ↦ turn_told turn l | Some w ↦ kept ] in m.spot) ≡ l.spot
  by None = refl
  by (Some w) = refl

-- ---- one comes in

pub with_there : (at : Spot) (v : LeasesState) (ls items : List LeaseState) (room k : ℕ) → ls ≡ items → IsFound at ls k → kept_as items room ≡ v
    → (v.leases ≡ with_lease at v.leases) × (v.room ≡ cond (list_any (is_lease_on at) v.leases) v.room (v.room - 1))
with_there at v ls items room k same h view =
    let any : list_any (is_lease_on at) items ≡ true = (let f = found_in at ls items k same h in there_any at items k f.item f.is) in
    let P : LeasesState → Type 0 = λ w. (w.leases ≡ with_lease at w.leases) × (w.room ≡ cond (list_any (is_lease_on at) w.leases) w.room (w.room - 1)) in
    subst P view
    (sym (ap (λ b. cond b items (put_in (λ a b. is_spot_before a.spot b.spot) (new_lease at) items)) any), sym (ap (λ b. cond b room (room - 1)) any))

pub with_new : (at : Spot) (v : LeasesState) (ls items : List LeaseState) (room k : ℕ) → AreByPlace items → ls ≡ items → IsGap at ls k → kept_as items room ≡ v
    → (insert items k (new_lease at) ≡ with_lease at v.leases) × (room - 1 ≡ cond (list_any (is_lease_on at) v.leases) v.room (v.room - 1))
with_new at v ls items room k rising same h view =
    let gap = gap_in at ls items k same h in
    let none : list_any (is_lease_on at) items ≡ false = gap_any at items k rising gap in
    let P : LeasesState → Type 0 = λ w. (insert items k (new_lease at) ≡ with_lease at w.leases) × (room - 1 ≡ cond (list_any (is_lease_on at) w.leases) w.room (w.room - 1)) in
    subst P view (
      sym (ap (λ b. cond b items (put_in (λ a b. is_spot_before a.spot b.spot) (new_lease at) items)) none ∙ gap_put (new_lease at) items k gap),
      sym (ap (λ b. cond b room (room - 1)) none),
    )

-- There is room for it.
pub room_for : (at : Spot) (v : LeasesState) (ls items : List LeaseState) (room k : ℕ) → AreByPlace items → ls ≡ items → IsGap at ls k → kept_as items room ≡ v
    → (list_any (is_lease_on at) v.leases ≡ false → 0 < v.room) → 0 < room
room_for at v ls items room k rising same h view has =
    let P : LeasesState → Type 0 = λ w. (list_any (is_lease_on at) w.leases ≡ false → 0 < w.room) in
    subst P (sym view) has (gap_any at items k rising (gap_in at ls items k same h))
