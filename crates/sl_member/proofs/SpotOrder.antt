-- Areas are in a strict order by path and base, in which any two that are apart compare.
use Rattle.sl_trace.specs.Leases.{is_spot_before}
use Rattle.sl_trace.specs.Traces.{same_spot}
use Rattle.sl_trace.specs.declared.effects.Spot.{Spot}
use Rattle.sl_words.proofs.CaseLaws.{false_is_true, true_is_false}
use Rattle.sl_words.proofs.WordLaws.{and_true, or_true}
use Rattle.sl_words.specs.Orders.{is_text_before}
use Rattle.std.proofs.Common.{ap, arith, inl, inr, refl, subst, sym, ◌∙◌}
use Rattle.std.proofs.lemmas.Bool.Decides.{Decides-eqb}
use Rattle.std.specs.Cmp.{nat_eq_equiv}
use Rattle.std.specs.Cmp.Lexicographic.{bytes_decides, nat_list_eq_equiv}
use Rattle.std.specs.Prelude.{Bool, List, bytes_eq, false, nat_lt, true, [], ℕ, ◌&&◌, ◌==◌, ◌∷◌, ◌≡◌, ◌||◌, ◌⊎◌}

-- ---- texts

weak_step : (x y z : ℕ) (p q r : Bool) → (nat_lt x y || x == y && p) ≡ true → (nat_lt z y || z == y && q) ≡ false → (p ≡ true → q ≡ false → r ≡ true)
    → (nat_lt x z || x == z && r) ≡ true
weak_step x y z p q r lt ge rest = grind arith

asym_step : (x y : ℕ) (p q : Bool) → (nat_lt x y || x == y && p) ≡ true → (p ≡ true → q ≡ false) → (nat_lt y x || y == x && q) ≡ false
asym_step x y p q lt rest = grind arith

text_weak : (x y z : List ℕ) → is_text_before x y ≡ true → is_text_before z y ≡ false → is_text_before x z ≡ true
text_weak [] [] z lt ge = absurd (true_is_false (sym lt))
text_weak [] (y ∷ ys) [] lt ge = absurd (true_is_false ge)
text_weak [] (y ∷ ys) (z ∷ zs) lt ge = refl
text_weak (x ∷ xs) [] z lt ge = absurd (true_is_false (sym lt))
text_weak (x ∷ xs) (y ∷ ys) [] lt ge = absurd (true_is_false ge)
text_weak (x ∷ xs) (y ∷ ys) (z ∷ zs) lt ge = weak_step x y z (is_text_before xs ys) (is_text_before zs ys) (is_text_before xs zs) lt ge (λ a b. text_weak xs ys zs a b)

text_asym : (x y : List ℕ) → is_text_before x y ≡ true → is_text_before y x ≡ false
text_asym [] [] lt = absurd (true_is_false (sym lt))
text_asym [] (y ∷ ys) lt = refl
text_asym (x ∷ xs) [] lt = absurd (true_is_false (sym lt))
text_asym (x ∷ xs) (y ∷ ys) lt = asym_step x y (is_text_before xs ys) (is_text_before ys xs) lt (λ a. text_asym xs ys a)

same_step : (x y : ℕ) (p q : Bool) → (nat_lt x y || x == y && p) ≡ false → (nat_lt y x || y == x && q) ≡ false → (x ≡ y) × (p ≡ false) × (q ≡ false)
same_step x y p q a b = (grind arith, grind arith, grind arith)

-- Two texts of which neither comes first are one.
text_same : (x y : List ℕ) → is_text_before x y ≡ false → is_text_before y x ≡ false → x ≡ y
text_same [] [] a b = refl
text_same [] (y ∷ ys) a b = absurd (true_is_false a)
text_same (x ∷ xs) [] a b = absurd (true_is_false b)
text_same (x ∷ xs) (y ∷ ys) a b =
    let s = same_step x y (is_text_before xs ys) (is_text_before ys xs) a b in ap (λ n. n ∷ xs) s.0 ∙ ap (λ zs. y ∷ zs) (text_same xs ys s.1 s.2)

-- ---- areas

pub spot_is : (a b : Spot) → same_spot a b ≡ true → a ≡ b
spot_is a b h =
    let parts = and_true (a.base == b.base) (bytes_eq a.path b.path) h in
    let base : a.base ≡ b.base = (Decides-eqb a.base b.base).0 parts.0 in
    let path : a.path ≡ b.path = (bytes_decides a.path b.path).0 parts.1 in
    let P : List ℕ → ℕ → Spot = λ p n. record { path = p; base = n } in
    ap (λ p. P p a.base) path ∙ ap (λ n. P b.path n) base

text_itself : (x : List ℕ) → is_text_before x x ≡ false
text_itself x = by (is_text_before x x) refl where
  by : (b : Bool) → is_text_before x x ≡ b → is_text_before x x ≡ false
  by true is = text_asym x x is
  by false is = is

path_first : (p q : List ℕ) (m n : ℕ) → is_text_before p q ≡ true → (is_text_before p q || bytes_eq p q && nat_lt m n) ≡ true
path_first p q m n h = ap (λ b. b || bytes_eq p q && nat_lt m n) h

base_first : (p : List ℕ) (m n : ℕ) → nat_lt m n ≡ true → (is_text_before p p || bytes_eq p p && nat_lt m n) ≡ true
base_first p m n h =
    ap (λ b. b || bytes_eq p p && nat_lt m n) (text_itself p) ∙ ap (λ b. b && nat_lt m n) (nat_list_eq_equiv.refl p) ∙ h

less_weak : (x y z : ℕ) → nat_lt x y ≡ true → nat_lt z y ≡ false → nat_lt x z ≡ true
less_weak x y z lt ge = grind arith

less_asym : (x y : ℕ) → nat_lt x y ≡ true → nat_lt y x ≡ false
less_asym x y lt = grind arith

less_same : (x y : ℕ) → nat_lt x y ≡ false → nat_lt y x ≡ false → x ≡ y
less_same x y a b = grind arith

-- Neither part holds.
neither : (a b : Bool) → (a || b) ≡ false → (a ≡ false) × (b ≡ false)
neither true b h = absurd (true_is_false h)
neither false b h = (refl, h)

-- One and not the other.
not_the_other : (a b : Bool) → (a && b) ≡ false → a ≡ true → b ≡ false
not_the_other true b h is = h
not_the_other false b h is = absurd (false_is_true is)

-- Which comes first of two on one path is told by their bases.
base_of_same : (p : List ℕ) (m n : ℕ) → (is_text_before p p || bytes_eq p p && nat_lt m n) ≡ false → nat_lt m n ≡ false
base_of_same p m n h = not_the_other (bytes_eq p p) (nat_lt m n) (neither (is_text_before p p) (bytes_eq p p && nat_lt m n) h).1 (nat_list_eq_equiv.refl p)

-- Two of which neither comes first are one.
pub spot_same : (a b : Spot) → is_spot_before a b ≡ false → is_spot_before b a ≡ false → a ≡ b
spot_same a b h k =
    let x = neither (is_text_before a.path b.path) (bytes_eq a.path b.path && nat_lt a.base b.base) h in
    let y = neither (is_text_before b.path a.path) (bytes_eq b.path a.path && nat_lt b.base a.base) k in
    let path : a.path ≡ b.path = text_same a.path b.path x.0 y.0 in
    let left : nat_lt a.base b.base ≡ false = not_the_other (bytes_eq a.path b.path) (nat_lt a.base b.base) x.1 ((bytes_decides a.path b.path).1 path) in
    let right : nat_lt b.base a.base ≡ false = not_the_other (bytes_eq b.path a.path) (nat_lt b.base a.base) y.1 ((bytes_decides b.path a.path).1 (sym path)) in
    let base : a.base ≡ b.base = less_same a.base b.base left right in
    let P : List ℕ → ℕ → Spot = λ p n. record { path = p; base = n } in
    ap (λ p. P p a.base) path ∙ ap (λ n. P b.path n) base

-- What comes before one that another doesn't come before, comes before that other.
pub spot_weak : (x y z : Spot) → is_spot_before x y ≡ true → is_spot_before z y ≡ false → is_spot_before x z ≡ true
spot_weak x y z lt ge =
    let g = neither (is_text_before z.path y.path) (bytes_eq z.path y.path && nat_lt z.base y.base) ge in
    elim (or_true (is_text_before x.path y.path) (bytes_eq x.path y.path && nat_lt x.base y.base) lt) [
      | inl first ↦ path_first x.path z.path x.base z.base (text_weak x.path y.path z.path first g.0)
      | inr same ↦
          let parts = and_true (bytes_eq x.path y.path) (nat_lt x.base y.base) same in
          let path : x.path ≡ y.path = (bytes_decides x.path y.path).0 parts.0 in
          let P : List ℕ → Type 0 = λ p. (is_text_before p z.path || bytes_eq p z.path && nat_lt x.base z.base) ≡ true in
          subst P (sym path) (by (is_text_before y.path z.path) refl g.0 g.1 parts.1)
    ] where
      by : (b : Bool) → is_text_before y.path z.path ≡ b → is_text_before z.path y.path ≡ false → (bytes_eq z.path y.path && nat_lt z.base y.base) ≡ false
          → nat_lt x.base y.base ≡ true → (is_text_before y.path z.path || bytes_eq y.path z.path && nat_lt x.base z.base) ≡ true
      by true is back apart less = path_first y.path z.path x.base z.base is
      by false is back apart less =
          let same : y.path ≡ z.path = text_same y.path z.path is back in
          let past : nat_lt z.base y.base ≡ false = not_the_other (bytes_eq z.path y.path) (nat_lt z.base y.base) apart ((bytes_decides z.path y.path).1 (sym same)) in
          let Q : List ℕ → Type 0 = λ p. (is_text_before y.path p || bytes_eq y.path p && nat_lt x.base z.base) ≡ true in
          subst Q same (base_first y.path x.base z.base (less_weak x.base y.base z.base less past))

-- Of two only one comes first.
pub spot_asym : (x y : Spot) → is_spot_before x y ≡ true → is_spot_before y x ≡ false
spot_asym x y lt = by (is_spot_before y x) refl where
  by : (b : Bool) → is_spot_before y x ≡ b → is_spot_before y x ≡ false
  by false is = is
  by true is = absurd (clash (or_true (is_text_before x.path y.path) (bytes_eq x.path y.path && nat_lt x.base y.base) lt)
      (or_true (is_text_before y.path x.path) (bytes_eq y.path x.path && nat_lt y.base x.base) is)) where
        clash : (is_text_before x.path y.path ≡ true) ⊎ ((bytes_eq x.path y.path && nat_lt x.base y.base) ≡ true)
            → (is_text_before y.path x.path ≡ true) ⊎ ((bytes_eq y.path x.path && nat_lt y.base x.base) ≡ true) → ⊥
        clash (inl a) (inl b) = true_is_false (sym b ∙ text_asym x.path y.path a)
        clash (inl a) (inr b) =
            let same = (bytes_decides y.path x.path).0 (and_true (bytes_eq y.path x.path) (nat_lt y.base x.base) b).0 in
            true_is_false (sym a ∙ ap (λ p. is_text_before x.path p) same ∙ text_itself x.path)
        clash (inr a) (inl b) =
            let same = (bytes_decides x.path y.path).0 (and_true (bytes_eq x.path y.path) (nat_lt x.base y.base) a).0 in
            true_is_false (sym b ∙ ap (λ p. is_text_before y.path p) same ∙ text_itself y.path)
        clash (inr a) (inr b) =
            let u = (and_true (bytes_eq x.path y.path) (nat_lt x.base y.base) a).1 in
            let v = (and_true (bytes_eq y.path x.path) (nat_lt y.base x.base) b).1 in
            true_is_false (sym v ∙ less_asym x.base y.base u)

pub spot_trans : (x y z : Spot) → is_spot_before x y ≡ true → is_spot_before y z ≡ true → is_spot_before x z ≡ true
spot_trans x y z a b = spot_weak x y z a (spot_asym y z b)

pub spot_itself : (s : Spot) → is_spot_before s s ≡ false
spot_itself s = by (is_spot_before s s) refl where
  by : (b : Bool) → is_spot_before s s ≡ b → is_spot_before s s ≡ false
  by true is = spot_asym s s is
  by false is = is

-- What comes before an area, or behind it, is another.
pub spot_apart : (x y : Spot) → is_spot_before x y ≡ true → same_spot y x ≡ false
spot_apart x y lt = by (same_spot y x) refl where
  by : (b : Bool) → same_spot y x ≡ b → same_spot y x ≡ false
  by false is = is
  by true is = absurd (true_is_false (sym lt ∙ ap (λ s. is_spot_before x s) (spot_is y x is) ∙ spot_itself x))

pub spot_past : (x y : Spot) → is_spot_before x y ≡ true → same_spot x y ≡ false
spot_past x y lt = by (same_spot x y) refl where
  by : (b : Bool) → same_spot x y ≡ b → same_spot x y ≡ false
  by false is = is
  by true is = absurd (true_is_false (sym lt ∙ ap (λ s. is_spot_before s y) (spot_is x y is) ∙ spot_itself y))

-- An area is itself.
pub same_itself : (s : Spot) → same_spot s s ≡ true
same_itself s = ap (λ b. b && bytes_eq s.path s.path) (nat_eq_equiv.refl s.base) ∙ nat_list_eq_equiv.refl s.path

-- On one path the bases tell which comes first, and else the paths.
pub on_one_path : (a b : Spot) → bytes_eq a.path b.path ≡ true → is_spot_before a b ≡ nat_lt a.base b.base
on_one_path a b same =
    let path : a.path ≡ b.path = (bytes_decides a.path b.path).0 same in
    let first : is_text_before a.path b.path ≡ false = subst (λ p. is_text_before a.path p ≡ false) path (text_itself a.path) in
    ap (λ t. t || bytes_eq a.path b.path && nat_lt a.base b.base) first ∙ ap (λ t. t && nat_lt a.base b.base) same

or_none : (b : Bool) → (b || false) ≡ b
or_none true = refl
or_none false = refl

pub on_two_paths : (a b : Spot) → bytes_eq a.path b.path ≡ false → is_spot_before a b ≡ is_text_before a.path b.path
on_two_paths a b other = ap (λ t. is_text_before a.path b.path || t && nat_lt a.base b.base) other ∙ or_none (is_text_before a.path b.path)
