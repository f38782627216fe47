-- What was put into a sink, and what a seat knows of it.
use Rattle.sl_io.specs.FaultCauses.{Rose}
use Rattle.sl_output.specs.Pieces.{Piece, SeatState, text_of}
use Rattle.std.specs.Io.KnownBytes.{Appends}
use Rattle.std.specs.Prelude.{Bool, List, MatchBool, Option, [], ℕ, ◌++◌, ◌+◌, ◌∷◌, ◌≡◌, ◌≤◌}
use mathlib.Core.List.{IsPrefix}

-- A write failed: the sink took a beginning of the pieces, and had a fault since.
pub record IsCut (before now : Option (List ℕ)) (faults later : ℕ) (ps : List Piece) : Type 0 where
  pub part : List ℕ
  pub begins : IsPrefix part (text_of ps)
  pub took : Appends before now part
  pub rose : Rose faults later

-- A sink took these pieces, all of them; or a beginning of them, where a write failed. Its count of faults never fell.
pub record IsPut (before now : Option (List ℕ)) (faults later : ℕ) (ps : List Piece) (cut : Bool) : Type 0 where
  pub on : faults ≤ later
  pub took : MatchBool cut (IsCut before now faults later ps) (Appends before now (text_of ps))

-- A sink, the pieces that were put into it, and whether a write failed.
pub record KeptState (K : Type 0) : Type 0 where
  pub sink : K
  pub front : List Piece
  pub cut : Bool

-- The seat put this piece: it is the last of what the seat has seen now, which begins with all that it had seen, and the seat has counted it.
pub record HasPut (s s' : SeatState) (text : List ℕ) : Type 0 where
  pub past : List Piece
  pub before : IsPrefix s.front past
  pub front : s'.front ≡ past ++ record { by = s.by; entry = text } ∷ []
  pub by : s'.by ≡ s.by
  pub count : s'.count ≡ s.count + 1
