-- Lists whose elements are changed one after another, from the front on.
use Rattle.std.proofs.Common.{ap, ap₂, arith, get_or, refl, ◌∙◌}
use Rattle.std.specs.List.{slice_set}
use Rattle.std.specs.Prelude.{List, length, map, suc, zero, [], ℕ, ◌+◌, ◌<◌, ◌∷◌, ◌≡◌}
use Rattle.std.proofs.Math.Numerals.{suc-eq-add-one}

-- The first n elements changed.
abbrev pub front_mapped : {A : Type 0} → (A → A) → ℕ → List A → List A
front_mapped h zero xs = xs
front_mapped h (suc n) [] = []
front_mapped h (suc n) (x ∷ xs) = h x ∷ front_mapped h n xs

same_behind : {A : Type 0} (h : A → A) (n : ℕ) (xs : List A) (d : A) → get_or (front_mapped h n xs) n d ≡ get_or xs n d
same_behind h zero xs d = refl
same_behind h (suc n) [] d = refl
same_behind h (suc n) (x ∷ xs) d = same_behind h n xs d

one_more : {A : Type 0} (h : A → A) (n : ℕ) (xs : List A) (d : A) → n < length xs → slice_set (front_mapped h n xs) n (h (get_or xs n d)) ≡ front_mapped h (suc n) xs
one_more h zero [] d lt = absurd (omega (arith, lt))
one_more h zero (x ∷ xs) d lt = refl
one_more h (suc n) [] d lt = absurd (omega (arith, lt))
one_more h (suc n) (x ∷ xs) d lt = ap (λ ys. h x ∷ ys) (one_more h n xs d (omega (arith, lt)))

pub length_front : {A : Type 0} (h : A → A) (n : ℕ) (xs : List A) → length (front_mapped h n xs) ≡ length xs
length_front h zero xs = refl
length_front h (suc n) [] = refl
length_front h (suc n) (x ∷ xs) = ap suc (length_front h n xs)

all_mapped : {A : Type 0} (h : A → A) (xs : List A) → front_mapped h (length xs) xs ≡ map h xs
all_mapped h [] = refl
all_mapped h (x ∷ xs) = ap (λ ys. h x ∷ ys) (all_mapped h xs)

-- One step of such a loop.
pub mapped_one : {A : Type 0} (h : A → A) (xs items : List A) (n : ℕ) (r new : A) → items ≡ front_mapped h n xs → n < length xs → r ≡ get_or items n r
    → new ≡ h r → slice_set items n new ≡ front_mapped h (n + 1) xs
mapped_one h xs items n r new is lt read new_is =
    let value : new ≡ h (get_or xs n r) = new_is ∙ ap h (read ∙ ap (λ ys. get_or ys n r) is ∙ same_behind h n xs r) in
    ap₂ (λ ys y. slice_set ys n y) is value ∙ one_more h n xs r lt ∙ ap (λ m. front_mapped h m xs) (suc-eq-add-one n)

-- .. and its end.
pub mapped_all : {A : Type 0} (h : A → A) (xs items : List A) (n : ℕ) → items ≡ front_mapped h n xs → n ≡ length xs → items ≡ map h xs
mapped_all h xs items n is all = is ∙ ap (λ m. front_mapped h m xs) all ∙ all_mapped h xs
