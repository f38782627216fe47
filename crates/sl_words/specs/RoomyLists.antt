-- A list with room for some more elements.
use Rattle.std.specs.Prelude.{List, ℕ}

-- The elements, and for how many more there is memory.
pub record Roomy (A : Type 0) : Type 0 where
  pub items : List A
  pub room : ℕ
