-- The header's areas are apart, and begin at multiples of their size.
use Rattle.sl_area.specs.AreaSizes.{Layout, Sizes}
use Rattle.sl_area.specs.AreaLayout.{in_area, is_base}
use Rattle.sl_run_law.proofs.Front.JoinedLists.{placed_at}
use Rattle.sl_run_law.proofs.Place.Sizes.{IsSized, area_has_bytes, around_base, is_multiple, one_base}
use Rattle.sl_words.proofs.Lists.{got_before, got_index}
use Rattle.sl_words.proofs.Numbers.{one_index}
use Rattle.sl_run.specs.Headers.{IsHeader, areas_of}
use Rattle.sl_run.specs.declared.header.Header.{Header}
use Rattle.sl_run.specs.declared.header.LockspaceLine.{LockspaceLine}
use Rattle.sl_run.specs.declared.header.ResourceLine.{ResourceLine}
use Rattle.sl_words.proofs.CaseLaws.{none_some, one_value, some_value}
use Rattle.sl_words.proofs.WordLaws.{and_true}
use Rattle.std.proofs.Common.{ap, arith, subst, sym, ◌∙◌}
use Rattle.std.proofs.lemmas.Bool.Decides.{Decides-eqb, nat_tests}
use Rattle.std.proofs.lemmas.Option.{slice_get_within}
use Rattle.std.specs.Prelude.{AllPairs, Contains, IsTrue, List, Some, [], length, map, nat_le, nat_lt, slice_get, suc, true, zero, ℕ, ◌%◌, ◌&&◌, ◌++◌, ◌+◌, ◌-◌, ◌<◌, ◌==◌, ◌^◌, ◌∷◌, ◌≡◌, ◌≤◌}

-- ---- offsets in an area

in_by : (base o area : ℕ) → (nat_le base o && nat_lt o (base + area)) ≡ true → (base ≤ o) × (o < base + area)
in_by base o area h = (grind (arith, nat_tests), grind (arith, nat_tests))

within_area : (g : Layout) (base o : ℕ) → IsTrue (in_area g base o) → (base ≤ o) × (o < base + g.area)
within_area g base o h = in_by base o g.area h

by_bounds : (base o area : ℕ) → base ≤ o → o < base + area → (nat_le base o && nat_lt o (base + area)) ≡ true
by_bounds base o area low high = grind (arith, nat_tests)

pub is_within : (g : Layout) (base o : ℕ) → base ≤ o → o < base + g.area → IsTrue (in_area g base o)
is_within g base o low high = by_bounds base o g.area low high

-- Two bases whose areas meet are one.
pub same_base : {s : Sizes} (g : Layout) (a b o : ℕ) → IsSized s g → a % s.area ≡ 0 → b % s.area ≡ 0 → IsTrue (in_area g a o) → IsTrue (in_area g b o) → a ≡ b
same_base g a b o z p q h k =
    let one = within_area g a o h in
    let two = within_area g b o k in
    one_base g.area a b o (subst (λ n. a % n ≡ 0) (sym z.area) p) (subst (λ n. b % n ≡ 0) (sym z.area) q) one.0 one.1 two.0 two.1

-- The base of an offset is a multiple, and its area has the offset.
pub base_aligned : {s : Sizes} (g : Layout) (o : ℕ) → IsSized s g → (o - o % g.area) % s.area ≡ 0
base_aligned g o z = subst (λ n. (o - o % g.area) % n ≡ 0) z.area (is_multiple g.area o)

pub base_around : {s : Sizes} (g : Layout) (o : ℕ) → IsSized s g → IsTrue (in_area g (o - o % g.area) o)
base_around g o z = let a = around_base g.area o (area_has_bytes g z) in is_within g (o - o % g.area) o a.0 a.1

-- ---- areas are apart

got_map : {A B : Type 0} (f : A → B) (xs : List A) (i : ℕ) (x : A) → slice_get xs i ≡ Some x → slice_get (map f xs) i ≡ Some (f x)
got_map f [] i x h = absurd (none_some x h)
got_map f (y ∷ xs) zero x h = ap (λ z. Some (f z)) (some_value y x h)
got_map f (y ∷ xs) (suc i) x h = got_map f xs i x h

got_behind : {A : Type 0} (xs ys : List A) (i : ℕ) (y : A) → slice_get ys i ≡ Some y → slice_get (xs ++ ys) (length xs + i) ≡ Some y
got_behind [] ys i y h = let same : 0 + i ≡ i = omega arith in subst (λ n. slice_get ys n ≡ Some y) (sym same) h
got_behind (x ∷ xs) ys i y h =
    let same : suc (length xs) + i ≡ suc (length xs + i) = omega arith in
    subst (λ n. slice_get (x ∷ (xs ++ ys)) n ≡ Some y) (sym same) (got_behind xs ys i y h)

abbrev Area : Type 0
Area = List ℕ × ℕ

abbrev Apart : Area → Area → Type 0
Apart a b = (a.0 ≡ b.0) → (a.1 ≡ b.1) → ⊥

never_before : (xs : List Area) (i j : ℕ) (a b : Area) → AllPairs Apart xs → slice_get xs i ≡ Some a → slice_get xs j ≡ Some b → a.0 ≡ b.0 → a.1 ≡ b.1 → i < j → ⊥
never_before xs i j a b apart at there paths offsets lt =
    apart i j a lt (slice_get_within xs j b there)
    (ap (λ x. x.0) (got_index xs i a a at) ∙ paths ∙ ap (λ x. x.0) (sym (got_index xs j b a there)))
    (ap (λ x. x.1) (got_index xs i a a at) ∙ offsets ∙ ap (λ x. x.1) (sym (got_index xs j b a there)))

one_area : (xs : List Area) (i j : ℕ) (a b : Area) → AllPairs Apart xs → slice_get xs i ≡ Some a → slice_get xs j ≡ Some b → a.0 ≡ b.0 → a.1 ≡ b.1 → i ≡ j
one_area xs i j a b apart at there paths offsets =
    one_index i j (λ lt. never_before xs i j a b apart at there paths offsets lt) (λ gt. never_before xs j i b a apart there at (sym paths) (sym offsets) gt)

abbrev lockspace_areas : Header → List Area
lockspace_areas h = map (λ l. (l.path, l.offset)) h.lockspaces

abbrev resource_areas : Header → List Area
resource_areas h = map (λ r. (r.path, r.offset)) h.resources

lockspace_area : (h : Header) (i : ℕ) (l : LockspaceLine) → slice_get h.lockspaces i ≡ Some l → slice_get (areas_of h) i ≡ Some (l.path, l.offset)
lockspace_area h i l at = got_before (lockspace_areas h) (resource_areas h) i (l.path, l.offset) (got_map (λ (x : LockspaceLine). (x.path, x.offset)) h.lockspaces i l at)

resource_area : (h : Header) (i : ℕ) (r : ResourceLine) → slice_get h.resources i ≡ Some r
    → slice_get (areas_of h) (length (lockspace_areas h) + i) ≡ Some (r.path, r.offset)
resource_area h i r at = got_behind (lockspace_areas h) (resource_areas h) i (r.path, r.offset) (got_map (λ (x : ResourceLine). (x.path, x.offset)) h.resources i r at)

pub one_lockspace : (h : Header) (l k : LockspaceLine) → IsHeader h → Contains h.lockspaces l → Contains h.lockspaces k → l.path ≡ k.path → l.offset ≡ k.offset → l ≡ k
one_lockspace h l k ok this that paths offsets =
    let i = placed_at h.lockspaces l this in
    let j = placed_at h.lockspaces k that in
    let same = one_area (areas_of h) i.0 j.0 (l.path, l.offset) (k.path, k.offset) ok.apart (lockspace_area h i.0 l i.1) (lockspace_area h j.0 k j.1) paths offsets in
    one_value l k (slice_get h.lockspaces j.0) (subst (λ n. slice_get h.lockspaces n ≡ Some l) same i.1) j.1

same_rest : (n i j : ℕ) → n + i ≡ n + j → i ≡ j
same_rest n i j h = omega (arith, h)

pub one_resource : (h : Header) (r k : ResourceLine) → IsHeader h → Contains h.resources r → Contains h.resources k → r.path ≡ k.path → r.offset ≡ k.offset → r ≡ k
one_resource h r k ok this that paths offsets =
    let n : ℕ = length (lockspace_areas h) in
    let i = placed_at h.resources r this in
    let j = placed_at h.resources k that in
    let same = same_rest n i.0 j.0
    (one_area (areas_of h) (n + i.0) (n + j.0) (r.path, r.offset) (k.path, k.offset) ok.apart (resource_area h i.0 r i.1) (resource_area h j.0 k j.1) paths offsets) in
    one_value r k (slice_get h.resources j.0) (subst (λ m. slice_get h.resources m ≡ Some r) same i.1) j.1

not_behind : (n i j : ℕ) → i < n → i ≡ n + j → ⊥
not_behind n i j lt e = omega (arith, lt, e)

pub never_both : (h : Header) (l : LockspaceLine) (r : ResourceLine) → IsHeader h → Contains h.lockspaces l → Contains h.resources r → l.path ≡ r.path → l.offset ≡ r.offset → ⊥
never_both h l r ok this that paths offsets =
    let i = placed_at h.lockspaces l this in
    let j = placed_at h.resources r that in
    let inside = got_map (λ (x : LockspaceLine). (x.path, x.offset)) h.lockspaces i.0 l i.1 in
    not_behind (length (lockspace_areas h)) i.0 j.0 (slice_get_within (lockspace_areas h) i.0 (l.path, l.offset) inside)
    (one_area (areas_of h) i.0 (length (lockspace_areas h) + j.0) (l.path, l.offset) (r.path, r.offset) ok.apart (lockspace_area h i.0 l i.1) (resource_area h j.0 r j.1) paths offsets)

-- ---- their bases

pub lockspace_aligned : (h : Header) (l : LockspaceLine) → IsHeader h → Contains h.lockspaces l → l.offset % h.geometry.area ≡ 0
lockspace_aligned h l ok there = (ok.lockspaces l there).1.aligned

pub resource_aligned : (h : Header) (r : ResourceLine) → IsHeader h → Contains h.resources r → r.offset % h.geometry.area ≡ 0
resource_aligned h r ok there = (ok.resources r there).1.aligned

-- What passes the test of a base is a multiple of the area's size.
pub is_base_aligned : {s : Sizes} (g : Layout) (o : ℕ) → IsSized s g → IsTrue (is_base g o) → o % s.area ≡ 0
is_base_aligned g o z h = subst (λ n. o % n ≡ 0) z.area ((Decides-eqb (o % g.area) 0).0 (and_true (o % g.area == 0) (nat_lt o (10 ^ 12)) h).0)
