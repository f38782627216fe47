-- Functions of numbers that a list of rows gives.
use Rattle.std.specs.Prelude.{Bool, List, false, if◌then◌else◌, [], ℕ, ◌==◌, ◌||◌, ◌∷◌}

-- A number, and what stands at it.
pub record Row (A : Type 0) : Type 0 where
  pub step : ℕ
  pub entry : A

-- Whether the number has a row.
abbrev pub has_row : {A : Type 0} → List (Row A) → ℕ → Bool
has_row [] e = false
has_row (r ∷ rs) e = e == r.step || has_row rs e

-- What stands at the number; what is given where it has no row.
abbrev pub entry_of : {A : Type 0} → A → List (Row A) → ℕ → A
entry_of none [] e = none
entry_of none (r ∷ rs) e = if e == r.step then r.entry else entry_of none rs e
