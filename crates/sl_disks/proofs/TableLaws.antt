-- Slots of a table, one by one.
use Rattle.sl_disks.specs.Disks.{stands_at, first_at}
use Rattle.sl_words.proofs.Numbers.{one_further, plus_zero}
use Rattle.sl_run.specs.declared.header.Header.{Header}
use Rattle.sl_words.proofs.CaseLaws.{none_some, some_value}
use Rattle.std.proofs.Common.{ap, refl, sym, ◌∙◌}
use Rattle.std.proofs.lemmas.List.{map-set}
use Rattle.std.specs.List.{enumerate_from, range_with_len, slice_set}
use Rattle.std.specs.Prelude.{List, None, Option, Some, map, option_map, replicate, slice_get, suc, zero, [], ℕ, ◌+◌, ◌∷◌, ◌≡◌}

pub slots_set : {A B : Type 0} (f : A → B) (xs : List (Option A)) (n : ℕ) (x : A)
    → map (λ o. option_map f o) (slice_set xs n (Some x)) ≡ slice_set (map (λ o. option_map f o) xs) n (Some (f x))
slots_set f xs n x = map-set (λ o. option_map f o) xs n (Some x)

-- ---- what stands at each, from a number on

abbrev pub stands_from : Header → List ℕ → ℕ → List (Option (List ℕ)) → List (List ℕ)
stands_from h path k slots = map (stands_at h path) (enumerate_from k slots)

-- .. at one that there is.
pub stands_there : (h : Header) (path : List ℕ) (k n : ℕ) (slots : List (Option (List ℕ))) (o : Option (List ℕ)) → slice_get slots n ≡ Some o
    → slice_get (stands_from h path k slots) n ≡ Some (stands_at h path (k + n, o))
stands_there h path k n [] o there = absurd (none_some o there)
stands_there h path k zero (x ∷ xs) o there = ap (λ y. Some (stands_at h path (k, y))) (some_value x o there) ∙ ap (λ m. Some (stands_at h path (m, o))) (plus_zero k)
stands_there h path k (suc n) (x ∷ xs) o there = stands_there h path (k + 1) n xs o there ∙ ap (λ m. Some (stands_at h path (m, o))) (one_further k n)

-- .. and past the last.
pub stands_nowhere : (h : Header) (path : List ℕ) (k n : ℕ) (slots : List (Option (List ℕ))) → slice_get slots n ≡ None → slice_get (stands_from h path k slots) n ≡ None
stands_nowhere h path k n [] none = refl
stands_nowhere h path k zero (x ∷ xs) none = absurd (none_some x (sym none))
stands_nowhere h path k (suc n) (x ∷ xs) none = stands_nowhere h path (k + 1) n xs none

-- A slot is filled with other bytes.
pub stands_set : (h : Header) (path : List ℕ) (k n : ℕ) (slots : List (Option (List ℕ))) (bytes : List ℕ)
    → stands_from h path k (slice_set slots n (Some bytes)) ≡ slice_set (stands_from h path k slots) n bytes
stands_set h path k n [] bytes = refl
stands_set h path k zero (x ∷ xs) bytes = refl
stands_set h path k (suc n) (x ∷ xs) bytes = ap (λ ys. stands_at h path (k, x) ∷ ys) (stands_set h path (k + 1) n xs bytes)

-- An empty slot is filled with what stands there at first.
pub stands_kept : (h : Header) (path : List ℕ) (k n : ℕ) (slots : List (Option (List ℕ))) → slice_get slots n ≡ Some None
    → stands_from h path k (slice_set slots n (Some (first_at h path (k + n)))) ≡ stands_from h path k slots
stands_kept h path k n [] there = refl
stands_kept h path k zero (x ∷ xs) there =
    ap (λ m. first_at h path m ∷ stands_from h path (k + 1) xs) (sym (plus_zero k)) ∙ ap (λ o. stands_at h path (k, o) ∷ stands_from h path (k + 1) xs) (sym (some_value x None there))
stands_kept h path k (suc n) (x ∷ xs) there =
    ap (λ m. stands_at h path (k, x) ∷ stands_from h path (k + 1) (slice_set xs n (Some (first_at h path m)))) (sym (one_further k n))
    ∙ ap (λ ys. stands_at h path (k, x) ∷ ys) (stands_kept h path (k + 1) n xs there)

-- Where none is filled all is as at first.
pub stands_first : (h : Header) (path : List ℕ) (k n : ℕ) → stands_from h path k (replicate n None) ≡ map (first_at h path) (range_with_len k n)
stands_first h path k zero = refl
stands_first h path k (suc n) = ap (λ ys. first_at h path k ∷ ys) (stands_first h path (k + 1) n)
