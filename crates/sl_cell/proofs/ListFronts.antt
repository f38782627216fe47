-- Fronts of lists, one element longer at a time.
use Rattle.std.proofs.Common.{All, ap, arith, length, slice_index_or, suc, take, List, [], sym, subst, ℕ, ◌++◌, ◌+◌, ◌<◌, ◌∷◌, ◌≡◌, ◌≤◌}
use Rattle.std.proofs.Math.Seq.{take-suc}
use Rattle.std.proofs.lemmas.List.Elements.{All-append, All-cons}
use Rattle.std.proofs.lemmas.List.Sums.{sum_by-append, sum_by-take-drop}
use Rattle.std.specs.List.{sum_by}

pub take_next : {X : Type 0} (xs : List X) (i : ℕ) (d : X) → i < length xs → take (i + 1) xs ≡ take i xs ++ slice_index_or xs i d ∷ []
take_next xs i d below =
    let one : suc i ≡ i + 1 = omega arith in
    subst (λ n. take n xs ≡ take i xs ++ slice_index_or xs i d ∷ []) one (take-suc xs i d below)

pub all_more : {X : Type 0} (P : X → Type 0) (xs : List X) (i : ℕ) (d : X) → i < length xs → All P (take i xs) → P (slice_index_or xs i d) → All P (take (i + 1) xs)
all_more P xs i d below so here =
    subst (All P) (sym (take_next xs i d below)) (All-append P (take i xs) (slice_index_or xs i d ∷ []) so (All-cons P (slice_index_or xs i d) [] here (λ k d' none. absurd (omega arith))))

pub sum_more : {X : Type 0} (f : X → ℕ) (xs : List X) (i : ℕ) (d : X) → i < length xs → sum_by f (take (i + 1) xs) ≡ sum_by f (take i xs) + f (slice_index_or xs i d)
sum_more f xs i d below = omega (arith, ap (sum_by f) (take_next xs i d below), sum_by-append f (take i xs) (slice_index_or xs i d ∷ []))

pub sum_front : {X : Type 0} (f : X → ℕ) (xs : List X) (n : ℕ) → sum_by f (take n xs) ≤ sum_by f xs
sum_front f xs n = omega (arith, sum_by-take-drop f xs n)
