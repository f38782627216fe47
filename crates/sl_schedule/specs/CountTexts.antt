-- The last line of a report, count by count.
use Rattle.std.specs.Prelude.{List, decimal, ℕ, ◌++◌, ◌∷◌}

-- A word and its count, with a space before each.
abbrev pub count_text : List ℕ → ℕ → List ℕ
count_text word count = 32 ∷ word ++ 32 ∷ decimal count
