-- The open bars of holdings, as rows of what such a bar shows; and what the lines of a report make of these.
use Rattle.sl_picture.specs.Fates.{is_holding}
use Rattle.sl_picture.specs.Kept.{Kept, first_kept, text_at}
use Rattle.sl_picture.specs.Said.{number_at, word_at}
use Rattle.sl_picture.specs.Tells.{is_silent, mode_of, taken, told_of}
use Rattle.sl_picture.specs.declared.kept.Part.{Part}
use Rattle.sl_picture.specs.declared.shapes.Bar.{Bar}
use Rattle.sl_picture.specs.declared.shapes.Shape.{Shape}
use Rattle.sl_picture.specs.declared.tells.Told.TheVariants.{End, Grant}
use Rattle.sl_picture.specs.declared.tells.Told.{Told}
use Rattle.sl_run.specs.declared.header.Header.{Header}
use Rattle.sl_text.specs.Forms.{lines_of}
use Rattle.std.specs.Prelude.{Bool, Contains, List, bytes_eq, filter, fold, if◌then◌else◌, length, map, not, true, [], ℕ, ◌&&◌, ◌++◌, ◌+◌, ◌==◌, ◌∷◌, ◌≡◌, ◌≤◌}

-- What the bar of a holding shows: the process, the resource's name behind its lockspace's, how it is held, under which instance.
pub record Row : Type 0 where
  pub process : ℕ
  pub resource : List ℕ
  pub shape : Shape
  pub instance : ℕ

-- ---- of bars

-- What a bar shows, with the texts that are kept.
abbrev pub row_of_bar : List ℕ → Bar → Row
row_of_bar texts b = record { process = b.number; resource = text_at texts b.name; shape = b.shape; instance = b.until }

-- Whether the bar is of a holding of this machine.
abbrev pub is_bar_on : ℕ → Bar → Bool
is_bar_on m b = is_holding b.shape && b.machine == m

-- What the open bars show of a machine, in the order in which they began.
abbrev pub bars_on : Kept → ℕ → List Row
bars_on k m = map (row_of_bar k.texts) (filter (is_bar_on m) k.opened)

-- ---- of lines

-- Whether the row is of this process and resource.
abbrev pub is_row_of : ℕ → List ℕ → Row → Bool
is_row_of process resource r = r.process == process && bytes_eq r.resource resource

abbrev pub without : ℕ → List ℕ → List Row → List Row
without process resource rows = filter (λ r. not (is_row_of process resource r)) rows

-- What a line grants.
abbrev pub granted_row : List ℕ → Row
granted_row line = record { process = number_at line 2; resource = word_at line 3; shape = mode_of (word_at line 4); instance = number_at line 5 }

-- What is held after a line of this kind.
abbrev pub told_rows : List ℕ → List Row → Told → List Row
told_rows line rows t = elim t [ End ↦ without (number_at line 2) (word_at line 3) rows | Grant ↦ rows ++ granted_row line ∷ [] | _ ↦ rows ]

-- What is held on a machine after a line.
abbrev pub after_line : ℕ → List Row → List ℕ → List Row
after_line m rows line = if number_at line 0 == m then told_rows line rows (told_of (word_at line 1)) else rows

abbrev pub after_lines : ℕ → List (List ℕ) → List Row → List Row
after_lines m lines rows = fold (after_line m) rows lines

-- ---- laws

-- The name of each open bar is among the texts that are kept.
abbrev pub NamesAreKept : Kept → Type 0
NamesAreKept k = (b : Bar) → Contains k.opened b → b.name.start + b.name.len ≤ length k.texts

-- A picture of this part, whose open bars of holdings are these rows, machine by machine.
abbrev pub Shows : Part → Kept → (ℕ → List Row) → Type 0
Shows part k rows = (k.part ≡ part) × NamesAreKept k × ((m : ℕ) → bars_on k m ≡ rows m)

-- At first none is open.
abbrev pub BarsBegin : Type 0
BarsBegin = (part : Part) (h : Header) → Shows part (first_kept part h) (λ m. [])

-- A line that is drawn makes of them what its lines of the report say; an empty line and a comment have none.
abbrev pub LinesMoveBars : Type 0
LinesMoveBars =
    (part : Part) (number : ℕ) (line report : List ℕ) (k : Kept) (rows : ℕ → List Row) → number ≤ part.last →
    (is_silent line ≡ true → lines_of report ≡ []) → Shows part k rows →
    Shows part (taken number line report k) (λ m. after_lines m (lines_of report) (rows m))
