-- Sums over elements by number.
use Rattle.std.specs.Prelude.{List, [], ℕ, ◌+◌, ◌∷◌}

-- What the elements weigh together.
abbrev pub total : {X : Type 0} → (X → ℕ) → List (ℕ × X) → ℕ
total w [] = 0
total w (p ∷ items) = w p.1 + total w items
