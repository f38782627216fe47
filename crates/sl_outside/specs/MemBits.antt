-- Bits for names that are handed in.
use Rattle.std.specs.Prelude.{List, [], ℕ, ◌∷◌}

-- The bits to come, and the number that is given for good behind them.
pub record Bits : Type 0 where
  pub bits : List ℕ
  pub then_ : ℕ

-- What is given next.
abbrev pub next_bits : Bits → ℕ
next_bits w = first_of w.bits w.then_ where
  first_of : List ℕ → ℕ → ℕ
  first_of [] after = after
  first_of (x ∷ xs) after = x

-- What is left after it.
abbrev pub after_bits : Bits → Bits
after_bits w = record { bits = rest_of w.bits; then_ = w.then_ } where
  rest_of : List ℕ → List ℕ
  rest_of [] = []
  rest_of (x ∷ xs) = xs
