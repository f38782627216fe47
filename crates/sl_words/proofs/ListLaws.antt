-- Laws of lists that std has no lemma for.
use Rattle.sl_words.proofs.WordLaws.{and_true}
use Rattle.sl_words.specs.Words.{first_of_list, greatest}
use Rattle.std.proofs.Common.{Bool, List, Some, [], ap, arith, drop, get_or, length, max, refl, suc, take, true, zero, ℕ, ◌<◌, ◌≡◌, ◌≤◌, ◌∷◌}
use Rattle.std.proofs.lemmas.Bool.{and_from}
use Rattle.std.proofs.lemmas.List.Recursion.{and_at, and_from_places}
use Rattle.std.specs.List.{fold, list_all, slice_get}

-- The greatest of the numbers and a bound that is there already.
fold-max : (a : ℕ) (xs : List ℕ) → fold max a xs ≡ max a (fold max 0 xs)
fold-max a [] = omega arith
fold-max a (x ∷ xs) = omega (arith, fold-max (max a x) xs, fold-max (max 0 x) xs)

-- One more number.
pub greatest-cons : (x : ℕ) (xs : List ℕ) → greatest (x ∷ xs) ≡ max x (greatest xs)
greatest-cons x xs = omega (arith, fold-max (max 0 x) xs)

-- No number is above the greatest.
pub get_or-le-greatest : (xs : List ℕ) (i : ℕ) → get_or xs i 0 ≤ greatest xs
get_or-le-greatest [] i = omega arith
get_or-le-greatest (x ∷ xs) zero = omega (arith, greatest-cons x xs)
get_or-le-greatest (x ∷ xs) (suc i) = omega (arith, greatest-cons x xs, get_or-le-greatest xs i)

-- What all elements pass, each passes.
pub list_all_place : {A : Type 0} (p : A → Bool) (xs : List A) (i : ℕ) (d : A) → list_all p xs ≡ true → i < length xs → p (get_or xs i d) ≡ true
list_all_place p xs i d all inside = and_at (list_all p) p refl (λ _ _. refl) xs i d inside all

-- What each passes, all pass.
pub list_all_from_places : {A : Type 0} (p : A → Bool) (xs : List A) (d : A) → ((i : ℕ) → i < length xs → p (get_or xs i d) ≡ true) → list_all p xs ≡ true
list_all_from_places p xs d each = and_from_places (list_all p) p refl (λ _ _. refl) xs d each

-- A front of them, and what is behind it.
pub list_all-take : {A : Type 0} (p : A → Bool) (n : ℕ) (xs : List A) → list_all p xs ≡ true → list_all p (take n xs) ≡ true
list_all-take p zero xs all = refl
list_all-take p (suc n) [] all = refl
list_all-take p (suc n) (x ∷ xs) all = let parts = and_true (p x) (list_all p xs) all in and_from _ _ parts.0 (list_all-take p n xs parts.1)

pub list_all-drop : {A : Type 0} (p : A → Bool) (n : ℕ) (xs : List A) → list_all p xs ≡ true → list_all p (drop n xs) ≡ true
list_all-drop p zero xs all = all
list_all-drop p (suc n) [] all = refl
list_all-drop p (suc n) (x ∷ xs) all = list_all-drop p n xs (and_true (p x) (list_all p xs) all).1

-- The first of what is behind n elements is the n-th.
pub first_of_list-drop : {A : Type 0} (n : ℕ) (xs : List A) → first_of_list (drop n xs) ≡ slice_get xs n
first_of_list-drop zero xs = refl
first_of_list-drop (suc n) [] = refl
first_of_list-drop (suc n) (x ∷ xs) = first_of_list-drop n xs

-- A list with a first element is that element and the others.
pub first_and_others : {A : Type 0} (xs : List A) (x : A) → first_of_list xs ≡ Some x → xs ≡ x ∷ drop 1 xs
first_and_others [] x h = absurd cc
first_and_others (y ∷ ys) x h = let same : y ≡ x = cc in ap (λ z. z ∷ ys) same
