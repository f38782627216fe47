-- The areas of a session's leases: each is that of a lease call of it, each stands once; and what one more call makes of them.
use Rattle.sl_area.specs.AreaSizes.{Layout}
use Rattle.sl_host_law.proofs.SharedFacts.PlainLists.{all_from, any_mapped, each_of, none_any}
use Rattle.sl_host_law.proofs.SharedFacts.PlainOrders.{put_first, put_inside, put_mapped, put_old}
use Rattle.sl_host_state.specs.KeptState.{LeaseState}
use Rattle.sl_host_state.specs.MadeEffects.{is_lease_on, lease_calling, leases_calling, leases_working, new_lease, value_calling}
use Rattle.sl_host_state.specs.HostStands.{pair_of}
use Rattle.sl_trace.specs.Leases.{is_lease_call, is_on, is_spot_before, spot_of_call, spots_in, value_written, with_spot}
use Rattle.sl_words.proofs.Lists.{any_found, any_of, contains_cases, contains_first, contains_map, contains_more, contains_none}
use Rattle.sl_trace.specs.Traces.{Submitted, same_spot}
use Rattle.sl_trace.specs.declared.effects.Spot.{Spot}
use Rattle.sl_run_law.proofs.Leases.SpotLaws.{areas_are_apart}
use Rattle.sl_words.proofs.CaseLaws.{false_is_true, is_false, true_is_false}
use Rattle.sl_words.proofs.WordLaws.{and_true}
use Rattle.sl_words.specs.Orders.{put_in}
use Rattle.std.proofs.Common.{ap, arith, inl, inr, refl, subst, sym, ◌∙◌}
use Rattle.std.proofs.Math.Nat.{mod-lt}
use Rattle.std.proofs.lemmas.Bool.Decides.{Decides-eqb}
use Rattle.std.proofs.lemmas.Slice.Eq.{bytes_eq-Decides}
use Rattle.std.specs.List.{AllByRecursion, list_any}
use Rattle.std.specs.Option.{option_or}
use Rattle.std.specs.Prelude.{Bool, Contains, List, Some, bytes_eq, cond, false, find, if◌then◌else◌, map, nat_le, nat_lt, option_map, true, [], ℕ, ◌%◌, ◌&&◌, ◌+◌, ◌-◌, ◌<◌, ◌==◌, ◌∷◌, ◌≡◌, ◌⊎◌}

-- ---- one area

spots_are : (a b : Spot) → a.path ≡ b.path → a.base ≡ b.base → a ≡ b
spots_are a b paths bases = ap (λ p. record { path = p; base = a.base }) paths ∙ ap (λ (n : ℕ). record { path = b.path; base = n }) bases

-- Two areas that the test calls one are one.
pub one_spot : (a b : Spot) → same_spot a b ≡ true → a ≡ b
one_spot a b is =
    let parts = and_true (a.base == b.base) (bytes_eq a.path b.path) is in
    spots_are a b ((bytes_eq-Decides a.path b.path).0 parts.1) ((Decides-eqb a.base b.base).0 parts.0)

both : (a b : Bool) → a ≡ true → b ≡ true → (a && b) ≡ true
both true b first second = second
both false b first second = absurd (false_is_true first)

pub spot_itself : (a : Spot) → same_spot a a ≡ true
spot_itself a = both (a.base == a.base) (bytes_eq a.path a.path) ((Decides-eqb a.base a.base).1 refl) ((bytes_eq-Decides a.path a.path).1 refl)

-- A call is on its own area.
pub on_own : (g : Layout) (m : Submitted) → 0 < g.area → is_on g (spot_of_call g m) m.call ≡ true
on_own g m room =
    let rest : m.call.offset % g.area < g.area = mod-lt m.call.offset room in
    both (bytes_eq m.call.path m.call.path) (nat_le (m.call.offset - m.call.offset % g.area) m.call.offset && nat_lt m.call.offset (m.call.offset - m.call.offset % g.area + g.area))
    ((bytes_eq-Decides m.call.path m.call.path).1 refl)
    (both (nat_le (m.call.offset - m.call.offset % g.area) m.call.offset) (nat_lt m.call.offset (m.call.offset - m.call.offset % g.area + g.area)) (below m.call.offset (m.call.offset % g.area))
    (within m.call.offset (m.call.offset % g.area) g.area rest)) where
      below : (o r : ℕ) → nat_le (o - r) o ≡ true
      below o r = grind arith

      within : (o r a : ℕ) → r < a → nat_lt o (o - r + a) ≡ true
      within o r a less = grind (arith, less)

-- ---- where the areas come from

pub in_with : (at : Spot) (spots : List Spot) (d : Spot) → Contains (with_spot at spots) d → (at ≡ d) ⊎ Contains spots d
in_with at spots d there = by (list_any (same_spot at) spots) there where
  by : (b : Bool) → Contains (if b then spots else put_in is_spot_before at spots) d → (at ≡ d) ⊎ Contains spots d
  by true in_it = inr in_it
  by false in_it = put_inside is_spot_before at spots d in_it

pub with_old : (at : Spot) (spots : List Spot) (d : Spot) → Contains spots d → Contains (with_spot at spots) d
with_old at spots d there = by (list_any (same_spot at) spots) where
  by : (b : Bool) → Contains (if b then spots else put_in is_spot_before at spots) d
  by true = there
  by false = put_old is_spot_before at spots d there

with_itself : (at : Spot) (spots : List Spot) → list_any (same_spot at) (with_spot at spots) ≡ true
with_itself at spots = by (list_any (same_spot at) spots) refl where
  by : (b : Bool) → list_any (same_spot at) spots ≡ b → list_any (same_spot at) (if b then spots else put_in is_spot_before at spots) ≡ true
  by true is = is
  by false is = any_of (same_spot at) (put_in is_spot_before at spots) at (spot_itself at) (put_first is_spot_before at spots)

-- An area is that of a call.
pub record OfCall (g : Layout) (ms : List Submitted) (at : Spot) : Type 0 where
  pub from : Submitted
  pub there : Contains ms from
  pub is : spot_of_call g from ≡ at

pub spot_comes : (g : Layout) (ms : List Submitted) (at : Spot) → Contains (spots_in g ms) at → OfCall g ms at
spot_comes g [] at there = absurd (contains_none at there)
spot_comes g (m ∷ ms) at there = by (λ rest. spot_comes g ms at rest) (is_lease_call m) there where
  further : OfCall g ms at → OfCall g (m ∷ ms) at
  further o = record { from = o.from; there = contains_more m ms o.from o.there; is = o.is }

  by : (Contains (spots_in g ms) at → OfCall g ms at) → (b : Bool) → Contains (elim b as (λ x. List Spot) [ false ↦ spots_in g ms | true ↦ with_spot (spot_of_call g m) (spots_in g ms) ]) at
      → OfCall g (m ∷ ms) at
  by deeper false in_it = further (deeper in_it)
  by deeper true in_it =
      elim (in_with (spot_of_call g m) (spots_in g ms) at in_it) [ inl new ↦ record { from = m; there = contains_first m ms; is = new } | inr old ↦ further (deeper old) ]

-- The area of a lease call is there.
pub spot_there : (g : Layout) (ms : List Submitted) (d : Submitted) → Contains ms d → is_lease_call d ≡ true → list_any (same_spot (spot_of_call g d)) (spots_in g ms) ≡ true
spot_there g [] d there works = absurd (contains_none d there)
spot_there g (m ∷ ms) d there works = by (λ rest. spot_there g ms d rest works) (contains_cases m ms d there) where
  grown : (b : Bool) → list_any (same_spot (spot_of_call g d)) (spots_in g ms) ≡ true
      → list_any (same_spot (spot_of_call g d)) (elim b as (λ x. List Spot) [ false ↦ spots_in g ms | true ↦ with_spot (spot_of_call g m) (spots_in g ms) ]) ≡ true
  grown false has = has
  grown true has =
      let f = any_found (same_spot (spot_of_call g d)) (spots_in g ms) has in
      any_of (same_spot (spot_of_call g d)) (with_spot (spot_of_call g m) (spots_in g ms)) f.0 f.2 (with_old (spot_of_call g m) (spots_in g ms) f.0 f.1)

  by : (Contains ms d → list_any (same_spot (spot_of_call g d)) (spots_in g ms) ≡ true) → (m ≡ d) ⊎ Contains ms d → list_any (same_spot (spot_of_call g d)) (spots_in g (m ∷ ms)) ≡ true
  by deeper (inl is) =
      subst (λ z. list_any (same_spot (spot_of_call g z)) (spots_in g (m ∷ ms)) ≡ true) is
      (ap (λ b. list_any (same_spot (spot_of_call g m)) (elim b as (λ x. List Spot) [ false ↦ spots_in g ms | true ↦ with_spot (spot_of_call g m) (spots_in g ms) ]))
      (subst (λ z. is_lease_call z ≡ true) (sym is) works) ∙ with_itself (spot_of_call g m) (spots_in g ms))
  by deeper (inr rest) = grown (is_lease_call m) (deeper rest)

-- A call on an area of the session is on the area that its offset says.
pub on_its_area : (g : Layout) (ms : List Submitted) (c : Submitted) (at : Spot) → Contains (spots_in g ms) at → is_on g at c.call ≡ true → spot_of_call g c ≡ at
on_its_area g ms c at there on =
    let o = spot_comes g ms at there in
    areas_are_apart g o.from c (subst (λ s. is_on g s c.call ≡ true) (sym o.is) on) ∙ o.is

-- ---- each stands once

abbrev pub AreOnce : List Spot → Type 0
AreOnce [] = Unit {0}
AreOnce (s ∷ ss) = AllByRecursion (λ t. same_spot s t ≡ false) ss × AreOnce ss

turned : (a b : Spot) → same_spot a b ≡ false → same_spot b a ≡ false
turned a b other = is_false (same_spot b a) (λ same. true_is_false (sym (spot_itself a) ∙ (ap (same_spot a) (sym (one_spot b a same)) ∙ other)))

put_other : (z x : Spot) (ss : List Spot) → same_spot z x ≡ false → AllByRecursion (λ t. same_spot z t ≡ false) ss → AllByRecursion (λ t. same_spot z t ≡ false) (put_in is_spot_before x ss)
put_other z x ss other all =
    all_from (λ t. same_spot z t ≡ false) (put_in is_spot_before x ss) (λ d there. by d (put_inside is_spot_before x ss d there)) where
      by : (d : Spot) → (x ≡ d) ⊎ Contains ss d → same_spot z d ≡ false
      by d (inl is) = ap (same_spot z) (sym is) ∙ other
      by d (inr old) = each_of (λ t. same_spot z t ≡ false) ss d all old

put_once : (x : Spot) (ss : List Spot) → AllByRecursion (λ t. same_spot x t ≡ false) ss → AreOnce ss → AreOnce (put_in is_spot_before x ss)
put_once x [] other once = (tt, tt)
put_once x (y ∷ ys) other once = by (is_spot_before x y) (put_once x ys other.1 once.1) where
  by : (b : Bool) → AreOnce (put_in is_spot_before x ys) → AreOnce (if b then x ∷ y ∷ ys else y ∷ put_in is_spot_before x ys)
  by true rest = (other, once)
  by false rest = (put_other y x ys (turned x y other.0) once.0, rest)

with_once : (at : Spot) (ss : List Spot) → AreOnce ss → AreOnce (with_spot at ss)
with_once at ss once = by (list_any (same_spot at) ss) refl where
  by : (b : Bool) → list_any (same_spot at) ss ≡ b → AreOnce (if b then ss else put_in is_spot_before at ss)
  by true is = once
  by false is = put_once at ss (all_from (λ t. same_spot at t ≡ false) ss (λ t there. none_any (same_spot at) ss t is there)) once

pub spots_once : (g : Layout) (ms : List Submitted) → AreOnce (spots_in g ms)
spots_once g [] = tt
spots_once g (m ∷ ms) = by (is_lease_call m) (spots_once g ms) where
  by : (b : Bool) → AreOnce (spots_in g ms) → AreOnce (elim b as (λ x. List Spot) [ false ↦ spots_in g ms | true ↦ with_spot (spot_of_call g m) (spots_in g ms) ])
  by false once = once
  by true once = with_once (spot_of_call g m) (spots_in g ms) once

-- So a lease is the one that is found by its area.
pub found_once : (at : Spot) (ls : List LeaseState) (l : LeaseState) → AreOnce (map (λ k. k.spot) ls) → Contains ls l → is_lease_on at l ≡ true → find (is_lease_on at) ls ≡ Some l
found_once at [] l once there on = absurd (contains_none l there)
found_once at (k ∷ ls) l once there on = by (λ rest. found_once at ls l once.1 rest on) (is_lease_on at k) refl (contains_cases k ls l there) where
  apart : is_lease_on at k ≡ true → Contains ls l → ⊥
  apart is rest =
      true_is_false (sym (spot_itself l.spot)
      ∙ (ap (λ s. same_spot s l.spot) (sym (one_spot at l.spot on) ∙ one_spot at k.spot is)
      ∙ each_of (λ t. same_spot k.spot t ≡ false) (map (λ (z : LeaseState). z.spot) ls) l.spot once.0 (contains_map (λ (z : LeaseState). z.spot) ls l rest)))

  by : (Contains ls l → find (is_lease_on at) ls ≡ Some l) → (b : Bool) → is_lease_on at k ≡ b → (k ≡ l) ⊎ Contains ls l → cond b (Some k) (find (is_lease_on at) ls) ≡ Some l
  by deeper true is (inl here) = ap (λ (z : LeaseState). Some z) here
  by deeper true is (inr rest) = absurd (apart is rest)
  by deeper false is (inl here) = absurd (true_is_false (sym on ∙ (ap (is_lease_on at) (sym here) ∙ is)))
  by deeper false is (inr rest) = deeper rest

-- ---- one more call

abbrev spots_of : List LeaseState → List Spot
spots_of ls = map (λ l. l.spot) ls

kept_spots : (f : LeaseState → LeaseState) (ls : List LeaseState) → ((l : LeaseState) → (f l).spot ≡ l.spot) → spots_of (map f ls) ≡ spots_of ls
kept_spots f [] same = refl
kept_spots f (l ∷ ls) same = ap (λ s. s ∷ spots_of (map f ls)) (same l) ∙ ap (λ ss. l.spot ∷ ss) (kept_spots f ls same)

pub valued_spot : (g : Layout) (c : Submitted) (l : LeaseState) → (value_calling g c l).spot ≡ l.spot
valued_spot g c l = by (is_on g l.spot c.call) where
  by : (b : Bool) → (cond b (record l { value = option_or (option_map pair_of (value_written c)) l.value }) l).spot ≡ l.spot
  by true = refl
  by false = refl

worked_spot : (at : Spot) (c : Submitted) (l : LeaseState) → (cond (is_lease_on at l) (lease_calling c l) l).spot ≡ l.spot
worked_spot at c l = by (is_lease_on at l) where
  by : (b : Bool) → (cond b (lease_calling c l) l).spot ≡ l.spot
  by true = refl
  by false = refl

working_spots : (at : Spot) (c : Submitted) (ls : List LeaseState) → spots_of (leases_working at c ls) ≡ with_spot at (spots_of ls)
working_spots at c ls =
    by (list_any (is_lease_on at) ls) refl ∙ ap (λ b. if b then spots_of ls else put_in is_spot_before at (spots_of ls)) (sym (any_mapped (same_spot at) (λ (l : LeaseState). l.spot) ls)) where
      by : (b : Bool) → list_any (is_lease_on at) ls ≡ b
          → spots_of (cond b (map (λ l. cond (is_lease_on at l) (lease_calling c l) l) ls) (put_in (λ k l. is_spot_before k.spot l.spot) (lease_calling c (new_lease at)) ls))
          ≡ (if b then spots_of ls else put_in is_spot_before at (spots_of ls))
      by true is = kept_spots (λ l. cond (is_lease_on at l) (lease_calling c l) l) ls (worked_spot at c)
      by false is = put_mapped (λ (l : LeaseState). l.spot) is_spot_before (lease_calling c (new_lease at)) ls

-- The leases' areas are those of the calls.
pub spots_more : (g : Layout) (c : Submitted) (ms : List Submitted) (ls : List LeaseState) → spots_in g ms ≡ spots_of ls → spots_in g (c ∷ ms) ≡ spots_of (leases_calling g c ls)
spots_more g c ms ls is = by (is_lease_call c) where
  by : (b : Bool) → elim b as (λ x. List Spot) [ false ↦ spots_in g ms | true ↦ with_spot (spot_of_call g c) (spots_in g ms) ]
      ≡ spots_of (cond b (leases_working (spot_of_call g c) c ls) (map (value_calling g c) ls))
  by false = is ∙ sym (kept_spots (value_calling g c) ls (valued_spot g c))
  by true = ap (with_spot (spot_of_call g c)) is ∙ sym (working_spots (spot_of_call g c) c ls)

-- What holds of some area holds of some after it.
pub any_stays : (g : Layout) (c : Submitted) (p : Spot → Bool) (ms : List Submitted) → list_any p (spots_in g ms) ≡ true → list_any p (spots_in g (c ∷ ms)) ≡ true
any_stays g c p ms has = by (is_lease_call c) where
  by : (b : Bool) → list_any p (elim b as (λ x. List Spot) [ false ↦ spots_in g ms | true ↦ with_spot (spot_of_call g c) (spots_in g ms) ]) ≡ true
  by false = has
  by true = let f = any_found p (spots_in g ms) has in any_of p (with_spot (spot_of_call g c) (spots_in g ms)) f.0 f.2 (with_old (spot_of_call g c) (spots_in g ms) f.0 f.1)
