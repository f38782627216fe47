-- What stands in a text behind a piece.
use Rattle.std.specs.Prelude.{List, None, Option, Some, if◌then◌else◌, [], ℕ, ◌==◌, ◌∷◌}

-- What follows the piece, if the text begins with it.
abbrev pub behind : List ℕ → List ℕ → Option (List ℕ)
behind [] text = Some text
behind (c ∷ piece) [] = None
behind (c ∷ piece) (d ∷ text) = if d == c then behind piece text else None
