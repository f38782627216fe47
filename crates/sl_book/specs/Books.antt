-- The rule of a book, and what its steps tell.
use Rattle.std.specs.Prelude.{ℕ, ◌≡◌, ◌==◌, ◌<◌, true, List, [], ◌∷◌, ◌++◌, length, MatchBool}
use mathlib.Core.List.{IsPrefix}
use Rattle.logbook.specs.Pages.{Book, Cell, Named, Step, View}

-- The first word is the length of the log. A book has two words, of which this one leaves the second at 0.
pub record IsCounted {X : Type 0} (cells : List Cell) (log : List X) : Type 0 where
  pub words : cells ≡ (length log, true) ∷ (0, true) ∷ []

abbrev pub head_of : Book → Named
head_of b = record { tracked = true; key = 0; book = b }

-- The element was added to all that had been seen; or the log was longer, and was seen.
abbrev pub Adds : {X : Type 0} → Step X → View X ℕ → ℕ → View X ℕ → Type 0
Adds s v found w = MatchBool (found == s.old) (w.0 ≡ v.0 ++ s.ask ∷ []) (length w.0 ≡ found)

-- ys begins with xs, and goes on.
abbrev pub IsLonger : {X : Type 0} → List X → List X → Type 0
IsLonger xs ys = IsPrefix xs ys × (length xs < length ys)
