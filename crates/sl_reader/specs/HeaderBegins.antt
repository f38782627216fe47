-- What reading a header from a source gives.
use Rattle.sl_report.specs.Languages.{whole_language}
use Rattle.sl_report.specs.HeaderLines.{HeaderLine}
use Rattle.sl_report.specs.Schedules.{Header_read, Header_refused, NumberedLine, numbered_from, numbered_lines, read_header}
use Rattle.sl_run.specs.declared.event.Refusal.{Refusal}
use Rattle.sl_run.specs.declared.header.Header.{Header}
use Rattle.sl_reader.specs.LineReads.{Gives, MayFollow, ReaderState}
use Rattle.sl_text.specs.Forms.{is_free_of, lines_of}
use Rattle.std.specs.Prelude.{Err, IsTrue, List, Ok, Option, Result, false, length, [], ℕ, ◌++◌, ◌+◌, ◌∷◌, ◌≡◌, ◌⊎◌}

-- The lines behind these bytes, where the reader has read so far.
abbrev pub lines_left : List ℕ → List ℕ → ReaderState → List NumberedLine
lines_left consumed rest r = numbered_from (length (consumed ++ rest)) r.behind (r.number + 1) (lines_of rest)

-- Whole lines, each with its line feed.
abbrev pub AreWholeLines : List ℕ → Type 0
AreWholeLines bytes = (bytes ≡ []) ⊎ ((front : List ℕ) × (bytes ≡ front ++ 10 ∷ []))

-- The lines of these bytes have been read.
pub record HasRead (consumed : List ℕ) (r : ReaderState) : Type 0 where
  pub behind : r.behind ≡ length consumed
  pub whole : r.ended ≡ false → AreWholeLines consumed

-- Of each source that goes on so, the first lines are these lines of a header.
pub record HeaderGoesOn (consumed : List ℕ) (ls : List HeaderLine) (r : ReaderState) : Type 0 where
  pub has_read : HasRead consumed r
  pub reads : (rest : List ℕ) → MayFollow r.ended rest
      → read_header whole_language ls (r.number + 1) (lines_left consumed rest r) ≡ read_header whole_language [] 1 (numbered_lines (consumed ++ rest))

-- A header was read.
pub record HeaderBegins (before after : Option (List ℕ)) (r : ReaderState) (h : Header) : Type 0 where
  pub consumed : List ℕ
  pub gives : Gives before after [] (consumed ++ r.left)
  pub has_read : HasRead consumed r
  pub reads : (rest : List ℕ) → MayFollow r.ended rest → read_header whole_language [] 1 (numbered_lines (consumed ++ rest)) ≡ Header_read h (lines_left consumed rest r)

-- A line of it is refused.
pub record HeaderStops (before after : Option (List ℕ)) (r : ReaderState) (number : ℕ) (why : Refusal) : Type 0 where
  pub bytes : List ℕ
  pub gives : Gives before after [] bytes
  pub reads : (rest : List ℕ) → MayFollow r.ended rest → read_header whole_language [] 1 (numbered_lines (bytes ++ rest)) ≡ Header_refused number why

abbrev pub HeaderIsRead : Option (List ℕ) → Option (List ℕ) → ReaderState → Result Header (ℕ × Refusal) → Type 0
HeaderIsRead before after r (Ok h) = HeaderBegins before after r h
HeaderIsRead before after r (Err e) = HeaderStops before after r e.0 e.1

-- A read failed within the header: each whole line before it is a line of a header, and no more was read than a part of a further line.
pub record HeaderBreaks (before after : Option (List ℕ)) : Type 0 where
  pub complete : List ℕ
  pub partial : List ℕ
  pub gives : Gives before after [] (complete ++ partial)
  pub whole : AreWholeLines complete
  pub free : IsTrue (is_free_of 10 partial)
  pub reader : ReaderState
  pub ls : List HeaderLine
  pub goes : HeaderGoesOn complete ls reader
