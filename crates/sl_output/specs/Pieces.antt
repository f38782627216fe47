-- Pieces of text, each with the number of whoever put it.
use Rattle.sl_book.specs.Logs.{entries, given_by}
use Rattle.sl_book.specs.Seats.{SeatState as SeatStateOf}
use Rattle.sl_book.specs.declared.signed.Signed.{Signed}
use Rattle.std.specs.List.{concat}
use Rattle.std.specs.Prelude.{List, ℕ}

-- A piece, seen as its bytes.
abbrev pub Piece : Type 0
Piece = Signed (List ℕ)

-- A thread's number, how many pieces it put, and how many pieces it has seen.
abbrev pub SeatState : Type 0
SeatState = SeatStateOf (List ℕ)

-- The pieces one behind the other.
abbrev pub text_of : List Piece → List ℕ
text_of ps = concat (entries ps)

-- Those of this number, one behind the other.
abbrev pub text_by : ℕ → List Piece → List ℕ
text_by by ps = text_of (given_by by ps)
