-- Numbered lists, and the least of numbers.
use Rattle.sl_words.specs.Words.{least, some_is}
use Rattle.std.proofs.Common.{ap, ap₂, arith, refl, subst, sym, ◌∙◌}
use Rattle.std.proofs.lemmas.Bool.Decides.{nat_tests}
use Rattle.std.specs.List.{enumerate_from, list_any, range_with_len}
use Rattle.std.specs.Prelude.{Bool, List, None, Option, Some, cond, false, filter, length, map, min, nat_lt, slice_get, suc, true, [], ℕ, ◌+◌, ◌||◌, ◌∷◌, ◌≡◌}

next_index : (i k : ℕ) → i + suc k ≡ i + 1 + k
next_index i k = omega arith

this_index : (i : ℕ) → i + 0 ≡ i
this_index i = omega arith

-- A test of numbers is one of numbered elements.
pub any_numbered : {A B : Type 0} (f : A → B) (p : ℕ → Bool) (q : ℕ × B → Bool) (i : ℕ) (xs : List A)
    → ((k : ℕ) (x : A) → slice_get xs k ≡ Some x → p (i + k) ≡ q (i + k, f x))
    → list_any p (range_with_len i (length xs)) ≡ list_any q (enumerate_from i (map f xs))
any_numbered f p q i [] same = refl
any_numbered f p q i (x ∷ xs) same =
    ap₂ (λ a b. a || b) (subst (λ n. p n ≡ q (n, f x)) (this_index i) (same 0 x refl))
    (any_numbered f p q (i + 1) xs (λ k y at. subst (λ n. p n ≡ q (n, f y)) (next_index i k) (same (suc k) y at)))

pub any_map : {A B : Type 0} (f : A → B) (p : A → Bool) (q : B → Bool) (xs : List A) → ((x : A) → p x ≡ q (f x)) → list_any p xs ≡ list_any q (map f xs)
any_map f p q [] same = refl
any_map f p q (x ∷ xs) same = ap₂ (λ a b. a || b) (same x) (any_map f p q xs same)

least_two : (m n x y : ℕ) → (nat_lt (x + m) n || nat_lt (y + m) n) ≡ nat_lt (min x y + m) n
least_two m n x y = grind (arith, nat_tests)

least_more : (m n x : ℕ) (o : Option ℕ) → (nat_lt (x + m) n || some_is (λ y. nat_lt (y + m) n) o)
    ≡ some_is (λ y. nat_lt (y + m) n) (elim o as (λ z. Option ℕ) [ None ↦ Some x | Some y ↦ Some (min x y) ])
least_more m n x None = grind (arith, nat_tests)
least_more m n x (Some y) = least_two m n x y

-- Some number is below the bound where the least one is.
pub any_least : (m n : ℕ) (xs : List ℕ) → list_any (λ x. nat_lt (x + m) n) xs ≡ some_is (λ x. nat_lt (x + m) n) (least xs)
any_least m n [] = refl
any_least m n (x ∷ xs) = ap (λ b. nat_lt (x + m) n || b) (any_least m n xs) ∙ least_more m n x (least xs)

-- Some element passes where one of those does that are kept, if no other can.
pub any_kept : {A B : Type 0} (p o : A → Bool) (f : A → B) (q : B → Bool) (xs : List A) → ((x : A) → o x ≡ true → p x ≡ q (f x))
    → ((x : A) → o x ≡ false → p x ≡ false) → list_any p xs ≡ list_any q (map f (filter o xs))
any_kept p o f q [] same none = refl
any_kept p o f q (x ∷ xs) same none = go (o x) refl (any_kept p o f q xs same none)
  where
    go : (b : Bool) → o x ≡ b → list_any p xs ≡ list_any q (map f (filter o xs)) → list_any p (x ∷ xs) ≡ list_any q (map f (filter o (x ∷ xs)))
    go true is rest = ap₂ (λ a b. a || b) (same x is) rest ∙ sym (ap (λ z. list_any q (map f (cond z (x ∷ filter o xs) (filter o xs)))) is)
    go false is rest = ap₂ (λ a b. a || b) (none x is) rest ∙ sym (ap (λ z. list_any q (map f (cond z (x ∷ filter o xs) (filter o xs)))) is)
