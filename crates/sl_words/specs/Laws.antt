-- Laws of the words, said once.
use Rattle.sl_words.specs.Words.{greatest}
use Rattle.std.specs.Prelude.{Contains, List, max, ℕ, ◌∷◌, ◌≡◌, ◌≤◌}

-- The greatest of the numbers is none below any of them, and one of them or 0.
pub record GreatestIsMost : Type 0 where
  pub above : (xs : List ℕ) (x : ℕ) → Contains xs x → x ≤ greatest xs
  pub first : (x : ℕ) (xs : List ℕ) → greatest (x ∷ xs) ≡ max x (greatest xs)
