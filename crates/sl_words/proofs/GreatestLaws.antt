-- The greatest of numbers.
use Rattle.std.proofs.Common.{arith, length, ◌<◌}
use Rattle.std.specs.Prelude.{List, refl, slice_index_or, suc, zero, [], ℕ, ◌∷◌, ◌≡◌, ◌≤◌}
use Rattle.sl_words.specs.Laws.{GreatestIsMost}
use Rattle.sl_words.specs.Words.{greatest}

-- Each element is at most the greatest, by its place.
greatest-at : (xs : List ℕ) (x k : ℕ) → k < length xs → slice_index_or xs k x ≡ x → x ≤ greatest xs
greatest-at [] x k lt e = absurd (omega arith)
greatest-at (y ∷ ys) x zero lt e = omega (arith, e)
greatest-at (y ∷ ys) x (suc k) lt e = let rest : x ≤ greatest ys = greatest-at ys x k (omega arith) e in omega (arith, rest)

pub greatest_is_most : GreatestIsMost
greatest_is_most = record { above = (λ xs x h. greatest-at xs x h.0 h.1 h.2); first = (λ x xs. refl) }
