-- What reading a line from a source gives.
use Rattle.sl_report.specs.Schedules.{NumberedLine, greatest_source, line_refusal, longest_line, numbered_from}
use Rattle.sl_run.specs.declared.event.Refusal.{Refusal}
use Rattle.sl_reader.specs.declared.reader.Next.TheVariants.{End, Line, Refused}
use Rattle.sl_reader.specs.declared.reader.Next.{Next}
use Rattle.sl_reader.specs.declared.reader.Taken.TheVariants as taken
use Rattle.sl_reader.specs.declared.reader.Taken.{Taken}
use Rattle.sl_text.specs.Forms.{is_free_of, lines_of}
use Rattle.std.specs.Io.KnownBytes.{Consumes, IsAtEnd}
use Rattle.std.specs.Prelude.{Bool, IsTrue, List, None, Option, Some, false, length, nat_lt, true, [], ℕ, ◌++◌, ◌+◌, ◌<◌, ◌∷◌, ◌≡◌, ◌≤◌}

-- ---- a reader

-- A reader of lines.
pub record ReaderState : Type 0 where
  -- the bytes that the source gave behind the line
  pub left : List ℕ
  -- the line, and how many bytes come before it
  pub line : List ℕ
  pub start : ℕ
  -- how many bytes come before the next line
  pub behind : ℕ
  -- how many lines there were, with this one
  pub number : ℕ
  -- whether the source has ended
  pub ended : Bool

-- Before the first line.
abbrev pub no_line : ReaderState
no_line = record { left = []; line = []; start = 0; behind = 0; number = 0; ended = false }

-- The line, as one of a source.
abbrev pub line_of : ReaderState → NumberedLine
line_of r = record { number = r.number; start = r.start; text = r.line; is_past = false }

-- What may follow the bytes that were read: nothing, once the source has ended.
abbrev pub MayFollow : Bool → List ℕ → Type 0
MayFollow ended rest = ended ≡ true → rest ≡ []

-- A source that has ended has no more bytes, and none of it is left.
pub record EndStands (left : Option (List ℕ)) (r : ReaderState) : Type 0 where
  pub at_end : r.ended ≡ true → IsAtEnd left
  pub none : r.ended ≡ true → r.left ≡ []

-- ---- a line

-- The first of the lines that begin there, and those behind it, of a source of so many bytes.
pub record FirstLine (total start number : ℕ) (bytes : List ℕ) (l : NumberedLine) : Type 0 where
  pub others : List NumberedLine
  pub lines : numbered_from total start number (lines_of bytes) ≡ l ∷ others

-- Whatever follows these bytes, the line that begins with them is refused for this.
pub record RefusesLine (start : ℕ) (bytes : List ℕ) (why : Refusal) : Type 0 where
  pub line : List ℕ → ℕ → NumberedLine
  pub first : (rest : List ℕ) (number : ℕ) → FirstLine (start + length (bytes ++ rest)) start number (bytes ++ rest) (line rest number)
  pub numbered : (rest : List ℕ) (number : ℕ) → (line rest number).number ≡ number
  pub refused : (rest : List ℕ) (number : ℕ) → line_refusal (line rest number) ≡ Some why

-- ---- reading

-- The source gave more bytes.
pub record Gives (before after : Option (List ℕ)) (have all : List ℕ) : Type 0 where
  pub more : List ℕ
  pub consumes : Consumes before after more
  pub all_are : have ++ more ≡ all

-- A line was read.
pub record ReadsLine (before after : Option (List ℕ)) (r n : ReaderState) : Type 0 where
  pub began : r.ended ≡ false
  -- its bytes, with its line feed if it has one
  pub taken : List ℕ
  pub gives : Gives before after r.left (taken ++ n.left)
  -- whatever follows, it is the first line from there on
  pub first : (rest : List ℕ) → MayFollow n.ended rest
      → numbered_from (r.behind + length (taken ++ rest)) r.behind (r.number + 1) (lines_of (taken ++ rest))
      ≡ line_of n ∷ numbered_from (r.behind + length (taken ++ rest)) n.behind (n.number + 1) (lines_of rest)
  -- nothing refuses it before it is read
  pub unrefused : (length n.line ≤ longest_line) × (n.behind ≤ greatest_source)
  pub behind : n.behind ≡ r.behind + length taken
  pub some : 0 < length taken
  -- it has a line feed, unless the source has ended
  pub feed : n.ended ≡ false → taken ≡ n.line ++ 10 ∷ []

-- No line was left, and the source has ended.
pub record ReadsEnd (before after : Option (List ℕ)) (r n : ReaderState) : Type 0 where
  pub gives : Gives before after r.left []
  pub ended : n.ended ≡ true
  pub same : n.number ≡ r.number

-- The line that begins there is refused.
pub record ReadsRefused (before after : Option (List ℕ)) (r n : ReaderState) (why : Refusal) : Type 0 where
  pub began : r.ended ≡ false
  pub bytes : List ℕ
  pub gives : Gives before after r.left bytes
  pub refuses : RefusesLine r.behind bytes why
  pub same : n.number ≡ r.number

abbrev pub Reads : Option (List ℕ) → Option (List ℕ) → ReaderState → ReaderState → Next → Type 0
Reads before after r n Line = ReadsLine before after r n
Reads before after r n End = ReadsEnd before after r n
Reads before after r n (Refused why) = ReadsRefused before after r n why

-- Reading was broken off within the line that begins there.
pub record IsCutOff (before after : Option (List ℕ)) (r : ReaderState) : Type 0 where
  pub began : r.ended ≡ false
  pub bytes : List ℕ
  pub gives : Gives before after r.left bytes

-- A read failed within the line that begins there.
pub record Fails (before after : Option (List ℕ)) (r : ReaderState) : Type 0 where
  pub bytes : List ℕ
  pub gives : Gives before after r.left bytes
  pub free : IsTrue (is_free_of 10 bytes)
  pub open_still : r.ended ≡ false

-- The line so far: it has no line feed and nothing refuses it.
pub record IsFront (start : ℕ) (line : List ℕ) : Type 0 where
  pub free : IsTrue (is_free_of 10 line)
  pub short : length line ≤ longest_line
  pub inside : start + length line ≤ greatest_source

-- A line is being read.
pub record IsReading (before now : Option (List ℕ)) (r n : ReaderState) : Type 0 where
  pub began : r.ended ≡ false
  pub gives : Gives before now r.left (n.line ++ n.left)
  pub front : IsFront r.behind n.line
  pub behind : n.behind ≡ r.behind
  pub number : n.number ≡ r.number
  pub open_still : n.ended ≡ false

-- ---- one piece

-- So many bytes, and one for a line feed.
abbrev pub with_feed : Bool → ℕ → ℕ
with_feed true len = len + 1
with_feed false len = len

-- The line feed itself.
abbrev pub feed_of : Bool → List ℕ
feed_of true = 10 ∷ []
feed_of false = []

-- A line of these bytes, behind so many, whose line feed was read or not: why it is refused, if it is.
abbrev pub Judges : ℕ → ℕ → Bool → Option Refusal → Type 0
Judges start len ends None = (len ≤ longest_line) × (start + with_feed ends len ≤ greatest_source)
Judges start len ends (Some why) =
    (text : List ℕ) → length text ≡ len
    → line_refusal (record { number = 0; start = start; text = text; is_past = nat_lt greatest_source (start + with_feed ends (length text)) }) ≡ Some why

-- All of the piece belongs to the line.
pub record TakesAll (r n : ReaderState) : Type 0 where
  pub line : n.line ≡ r.line ++ r.left
  pub left : n.left ≡ []
  pub front : IsFront r.behind n.line
  pub behind : n.behind ≡ r.behind
  pub number : n.number ≡ r.number
  pub ended : n.ended ≡ r.ended

-- The line ends in the piece.
pub record TakesLine (r n : ReaderState) : Type 0 where
  pub all_are : r.line ++ r.left ≡ n.line ++ 10 ∷ n.left
  pub front : IsFront r.behind n.line
  pub start : n.start ≡ r.behind
  pub behind : n.behind ≡ r.behind + length n.line + 1
  pub inside : n.behind ≤ greatest_source
  pub number : n.number ≡ r.number + 1
  pub ended : n.ended ≡ r.ended

-- The line is refused.
pub record TakesRefused (r n : ReaderState) (why : Refusal) : Type 0 where
  pub refuses : RefusesLine r.behind (r.line ++ r.left) why
  pub number : n.number ≡ r.number
  pub ended : n.ended ≡ r.ended

abbrev pub Takes : ReaderState → ReaderState → Taken → Type 0
Takes r n taken.More = TakesAll r n
Takes r n taken.Line = TakesLine r n
Takes r n (taken.Refused why) = TakesRefused r n why

-- ---- the end

-- The line is the last one.
pub record EndsLine (r n : ReaderState) : Type 0 where
  pub line : n.line ≡ r.line
  pub some : 0 < length r.line
  pub left : n.left ≡ r.left
  pub start : n.start ≡ r.behind
  pub behind : n.behind ≡ r.behind + length r.line
  pub number : n.number ≡ r.number + 1
  pub ended : n.ended ≡ true

-- There is none.
pub record EndsAlone (r n : ReaderState) : Type 0 where
  pub line : r.line ≡ []
  pub left : n.left ≡ r.left
  pub number : n.number ≡ r.number
  pub ended : n.ended ≡ true

abbrev pub EndsWith : ReaderState → ReaderState → Next → Type 0
EndsWith r n Line = EndsLine r n
EndsWith r n End = EndsAlone r n
EndsWith r n (Refused why) = ⊥
