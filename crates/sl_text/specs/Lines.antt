-- The lines of a source, split off one by one.
use Rattle.sl_text.specs.Forms.{is_free_of, lines_of}
use Rattle.std.specs.Prelude.{IsTrue, List, None, Option, Some, [], ℕ, ◌++◌, ◌∷◌, ◌≡◌, ◌⊎◌}

-- A first line, and the lines of what stands behind it.
abbrev pub lines_with : Option (List ℕ × List ℕ) → List (List ℕ)
lines_with None = []
lines_with (Some split) = split.0 ∷ lines_of split.1

-- The source begins with this line, which ends at the first line feed or at the source's end.
pub record IsFirstLine (source line rest : List ℕ) : Type 0 where
  pub free : IsTrue (is_free_of 10 line)
  pub text : (source ≡ line ++ 10 ∷ rest) ⊎ ((source ≡ line) × (rest ≡ []))
