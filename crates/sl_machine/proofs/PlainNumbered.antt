-- Lists whose elements are changed one after another, each with its number.
use Rattle.sl_words.proofs.CaseLaws.{true_is_false}
use Rattle.std.proofs.Common.{ap, ap₂, arith, get_or, refl, sym, ◌∙◌}
use Rattle.std.proofs.Math.Numerals.{suc-eq-add-one}
use Rattle.std.specs.List.{enumerate_from, list_any, slice_set}
use Rattle.std.specs.Prelude.{Bool, List, false, length, map, suc, true, zero, [], ℕ, ◌+◌, ◌<◌, ◌∷◌, ◌≡◌, ◌||◌}

pub neither : (a b : Bool) → (a || b) ≡ false → (a ≡ false) × (b ≡ false)
neither false b h = (refl, h)
neither true b h = (h, absurd (true_is_false h))

-- The first n elements changed, numbered from i on.
abbrev pub front_changed : {A : Type 0} → (ℕ × A → A) → ℕ → ℕ → List A → List A
front_changed h zero i xs = xs
front_changed h (suc n) i [] = []
front_changed h (suc n) i (x ∷ xs) = h (i, x) ∷ front_changed h n (i + 1) xs

pub same_behind : {A : Type 0} (h : ℕ × A → A) (n i : ℕ) (xs : List A) (d : A) → get_or (front_changed h n i xs) n d ≡ get_or xs n d
same_behind h zero i xs d = refl
same_behind h (suc n) i [] d = refl
same_behind h (suc n) i (x ∷ xs) d = same_behind h n (i + 1) xs d

moved : (i n : ℕ) → i + suc n ≡ i + 1 + n
moved i n = omega arith

pub one_more : {A : Type 0} (h : ℕ × A → A) (n i : ℕ) (xs : List A) (d : A) → n < length xs
    → slice_set (front_changed h n i xs) n (h (i + n, get_or xs n d)) ≡ front_changed h (suc n) i xs
one_more h zero i [] d lt = absurd (omega (arith, lt))
one_more h zero i (x ∷ xs) d lt = ap (λ j. h (j, x) ∷ xs) (none_more i)
  where
    none_more : (i : ℕ) → i + 0 ≡ i
    none_more i = omega arith
one_more h (suc n) i [] d lt = absurd (omega (arith, lt))
one_more h (suc n) i (x ∷ xs) d lt =
    ap (λ ys. h (i, x) ∷ ys) (ap (λ j. slice_set (front_changed h n (i + 1) xs) n (h (j, get_or xs n d))) (moved i n) ∙ one_more h n (i + 1) xs d (omega (arith, lt)))

pub all_changed : {A : Type 0} (h : ℕ × A → A) (i : ℕ) (xs : List A) → front_changed h (length xs) i xs ≡ map h (enumerate_from i xs)
all_changed h i [] = refl
all_changed h i (x ∷ xs) = ap (λ ys. h (i, x) ∷ ys) (all_changed h (i + 1) xs)

-- What no element of a numbered list passes, none at a place passes.
pub none_passes : {A : Type 0} (p : ℕ × A → Bool) (i : ℕ) (xs : List A) (n : ℕ) (d : A) → list_any p (enumerate_from i xs) ≡ false → n < length xs
    → p (i + n, get_or xs n d) ≡ false
none_passes p i [] n d none lt = absurd (omega (arith, lt))
none_passes p i (x ∷ xs) zero d none lt = ap (λ j. p (j, x)) (stays i) ∙ (neither (p (i, x)) (list_any p (enumerate_from (i + 1) xs)) none).0
  where
    stays : (i : ℕ) → i + 0 ≡ i
    stays i = omega arith
none_passes p i (x ∷ xs) (suc n) d none lt =
    ap (λ j. p (j, get_or xs n d)) (moved i n) ∙ none_passes p (i + 1) xs n d (neither (p (i, x)) (list_any p (enumerate_from (i + 1) xs)) none).1 (omega (arith, lt))

-- ---- a loop over machines

starts : (n : ℕ) → 0 + n ≡ n
starts n = omega arith

pub may_go : {A : Type 0} (h : ℕ × A → A) (p : ℕ × A → Bool) (xs items : List A) (n : ℕ) (r : A) → items ≡ front_changed h n 0 xs
    → list_any p (enumerate_from 0 xs) ≡ false → n < length xs → p (n, get_or items n r) ≡ false
may_go h p xs items n r is none lt =
    ap (λ ys. p (n, get_or ys n r)) is ∙ ap (λ x. p (n, x)) (same_behind h n 0 xs r) ∙ ap (λ j. p (j, get_or xs n r)) (sym (starts n))
    ∙ none_passes p 0 xs n r none lt

pub goes_one : {A : Type 0} (h : ℕ × A → A) (xs items : List A) (n : ℕ) (r new : A) → items ≡ front_changed h n 0 xs → n < length xs
    → new ≡ h (n, get_or items n r) → slice_set items n new ≡ front_changed h (n + 1) 0 xs
goes_one h xs items n r new is lt new_is =
    let value : new ≡ h (0 + n, get_or xs n r) =
    new_is ∙ ap (λ ys. h (n, get_or ys n r)) is ∙ ap (λ x. h (n, x)) (same_behind h n 0 xs r) ∙ ap (λ j. h (j, get_or xs n r)) (sym (starts n)) in
    ap₂ (λ ys y. slice_set ys n y) is value ∙ one_more h n 0 xs r lt ∙ ap (λ m. front_changed h m 0 xs) (suc-eq-add-one n)

pub gone_all : {A : Type 0} (h : ℕ × A → A) (xs items : List A) (n : ℕ) → items ≡ front_changed h n 0 xs → n ≡ length xs → items ≡ map h (enumerate_from 0 xs)
gone_all h xs items n is all = is ∙ ap (λ m. front_changed h m 0 xs) all ∙ all_changed h 0 xs
