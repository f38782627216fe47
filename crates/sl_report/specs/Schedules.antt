-- A source as a schedule: its header, its events up to the first line that is refused, and that refusal.
use Rattle.sl_report.specs.Languages.{Language}
use Rattle.sl_report.specs.ReadLines.{event_in, header_line_in, header_refusal}
use Rattle.sl_report.specs.DueRuns.{effects_of}
use Rattle.sl_report.specs.Reports.{Counts, count_event, end_line, event_lines, no_counts, run_counts, run_lines}
use Rattle.sl_report.specs.HeaderLines.{BeginLine, HeaderLine, header_of}
use Rattle.sl_report.specs.RefusalLines.{refusal_line}
use Rattle.sl_run.specs.Inputs.{asking}
use Rattle.sl_run.specs.EventChanges.{happens}
use Rattle.sl_run.specs.Refusals.{may_happen, refusal_of}
use Rattle.sl_run.specs.Runs.{Happening}
use Rattle.sl_run.specs.Worlds.{World, first_that, mebibyte, world_with}
use Rattle.sl_run.specs.declared.event.Event.TheVariants.{GiveAsk}
use Rattle.sl_run.specs.declared.event.Event.{Event}
use Rattle.sl_run.specs.declared.event.Refusal.TheVariants.{LimitBytes, Syntax}
use Rattle.sl_run.specs.declared.event.Refusal.{Refusal}
use Rattle.sl_run.specs.declared.header.Header.{Header}
use Rattle.sl_text.specs.Forms.{lines_of}
use Rattle.sl_trace.specs.declared.effects.Effects.{Effects}
use Rattle.sl_words.specs.Words.{some_is}
use Rattle.std.specs.Prelude.{Bool, Err, IsSomeAnd, IsTrue, List, None, Ok, Option, Result, Some, false, filter_map, length, min, nat_le, nat_lt, suc, true, zero, [], ℕ, ◌&&◌, ◌++◌, ◌+◌, ◌∷◌, ◌≡◌}

-- A line with its number and the number of bytes before it; it is past the limit where it holds the byte after the last one.
pub record NumberedLine : Type 0 where
  pub number : ℕ
  pub start : ℕ
  pub text : List ℕ
  pub is_past : Bool

-- The most bytes of a schedule.
abbrev pub greatest_source : ℕ
greatest_source = 1000000000

-- The most bytes of a line.
abbrev pub longest_line : ℕ
longest_line = 4096

-- The lines with their numbers, from these on.
abbrev pub numbered_from : ℕ → ℕ → ℕ → List (List ℕ) → List NumberedLine
numbered_from total start number [] = []
numbered_from total start number (l ∷ ls) =
    record { number = number; start = start; text = l; is_past = nat_lt greatest_source (min total (start + length l + 1)) }
    ∷ numbered_from total (start + length l + 1) (number + 1) ls

-- The lines of a source.
abbrev pub numbered_lines : List ℕ → List NumberedLine
numbered_lines source = numbered_from (length source) 0 1 (lines_of source)

-- ---- the header

-- A header with the lines after it, or the line that is refused.
pub data HeaderReading : Type 0 where
  Header_refused : (number : ℕ) (why : Refusal) → HeaderReading
  Header_read : (header : Header) (rest : List NumberedLine) → HeaderReading

-- The bytes of a sector where no line says otherwise.
abbrev pub default_sector : ℕ
default_sector = 512

-- The bytes of an area where no line says otherwise.
abbrev pub default_area : ℕ
default_area = mebibyte

-- Whether the line ends the header.
abbrev pub is_begin : HeaderLine → Bool
is_begin BeginLine = true
is_begin l = false

-- What a line is refused for before it is read: it is too long, or past the limit; the byte that comes first decides.
abbrev pub line_refusal : NumberedLine → Option Refusal
line_refusal l =
    first_that ((nat_lt longest_line (length l.text) && nat_le (l.start + longest_line + 1) greatest_source, Syntax) ∷ (l.is_past, LimitBytes) ∷ [])

-- Why the line is refused.
abbrev pub header_line_refusal : Language → List HeaderLine → Option HeaderLine → Option Refusal
header_line_refusal lang ls None = Some Syntax
header_line_refusal lang ls (Some l) = header_refusal lang default_sector default_area ls l

-- The lines with one more.
abbrev pub with_line : List HeaderLine → Option HeaderLine → List HeaderLine
with_line ls None = ls
with_line ls (Some l) = ls ++ l ∷ []

-- The header that the lines begin with.
abbrev pub read_header : Language → List HeaderLine → ℕ → List NumberedLine → HeaderReading
read_header lang ls next [] = Header_refused next Syntax
read_header lang ls next (l ∷ rest) =
    elim (line_refusal l) [
      | Some r ↦ Header_refused l.number r
      | None ↦ elim (lang.skips l.text) [
        | true ↦ read_header lang ls (l.number + 1) rest
        | false ↦
            let read : Option HeaderLine = header_line_in lang (header_of default_sector default_area ls).geometry.area l.text in
            elim (header_line_refusal lang ls read) [
              | Some r ↦ Header_refused l.number r
              | None ↦ elim (some_is is_begin read) [
                | true ↦ Header_read (header_of default_sector default_area ls) rest
                | false ↦ read_header lang (with_line ls read) (l.number + 1) rest
              ]
            ]
      ]
    ]

-- ---- the events

-- A line's number, and its event or why it can't be read.
abbrev pub EventLine : Type 0
EventLine = ℕ × Result Event Refusal

-- The event, or `syntax`.
abbrev pub event_or_syntax : Option Event → Result Event Refusal
event_or_syntax None = Err Syntax
event_or_syntax (Some e) = Ok e

-- The event of a line; empty lines and comments have none.
abbrev pub event_line : Language → Header → NumberedLine → Option EventLine
event_line lang h l =
    elim (line_refusal l) [
      | Some r ↦ Some (l.number, Err r)
      | None ↦ elim (lang.skips l.text) [ true ↦ None | false ↦ Some (l.number, event_or_syntax (event_in lang h.machines h.geometry.sector l.text)) ]
    ]

-- The events of the lines.
abbrev pub event_lines_of : Language → Header → List NumberedLine → List EventLine
event_lines_of lang h ls = filter_map (event_line lang h) ls

-- How a schedule ends: at its end, or at a line that is refused.
pub data Ending : Type 0 where
  At_end : Ending
  At_line : (number : ℕ) (why : Refusal) → Ending

-- No ask is due.
abbrev pub NoAsk : World → Type 0
NoAsk w = (asking w ≡ None)

-- The happening gives the ask that is due: it belongs to the line before it.
abbrev pub IsAskOf : World → Happening → Type 0
IsAskOf w x = IsSomeAnd (asking w) (λ m. x.0 ≡ GiveAsk m) × IsTrue (may_happen w x.0)

-- These happenings are the events of the lines up to the ending, each with the asks that follow it.
abbrev pub Follows : World → List EventLine → List Happening → Ending → Type 0
Follows w [] [] At_end = NoAsk w
Follows w [] [] (At_line number why) = ⊥
Follows w ((n, Err r) ∷ ls) [] (At_line number why) = (number ≡ n) × (why ≡ r) × NoAsk w
Follows w ((n, Ok e) ∷ ls) [] (At_line number why) = (number ≡ n) × (refusal_of w e ≡ Some why) × NoAsk w
Follows w (l ∷ ls) [] At_end = ⊥
Follows w [] (x ∷ xs) s = IsAskOf w x × Follows (happens w x.0 x.1) [] xs s
Follows w ((n, Err r) ∷ ls) (x ∷ xs) s = IsAskOf w x × Follows (happens w x.0 x.1) ((n, Err r) ∷ ls) xs s
Follows w ((n, Ok e) ∷ ls) (x ∷ xs) s =
    elim (asking w) [
      | Some m ↦ IsAskOf w x × Follows (happens w x.0 x.1) ((n, Ok e) ∷ ls) xs s
      | None ↦ (e ≡ x.0) × IsTrue (may_happen w e) × Follows (happens w x.0 x.1) ls xs s
    ]

-- These happenings are events of the lines, from the first on, each with the asks that follow it; further events and asks may be to come.
abbrev pub FollowsSoFar : World → List EventLine → List Happening → Type 0
FollowsSoFar w ls [] = Unit {0}
FollowsSoFar w [] (x ∷ xs) = IsAskOf w x × FollowsSoFar (happens w x.0 x.1) [] xs
FollowsSoFar w ((n, Err r) ∷ ls) (x ∷ xs) = IsAskOf w x × FollowsSoFar (happens w x.0 x.1) ((n, Err r) ∷ ls) xs
FollowsSoFar w ((n, Ok e) ∷ ls) (x ∷ xs) =
    elim (asking w) [
      | Some m ↦ IsAskOf w x × FollowsSoFar (happens w x.0 x.1) ((n, Ok e) ∷ ls) xs
      | None ↦ (e ≡ x.0) × IsTrue (may_happen w e) × FollowsSoFar (happens w x.0 x.1) ls xs
    ]

-- ---- the report of a run that stops there

-- The last line of a report.
abbrev pub last_lines : Language → Counts → Ending → List (List ℕ)
last_lines lang k At_end = end_line k ∷ []
last_lines lang k (At_line number why) = refusal_line number (lang.told why) ∷ []

-- The report of a run with its ending.
abbrev pub report_of : Language → Header → List Happening → Ending → List (List ℕ)
report_of lang h xs s =
    run_lines (world_with lang.program h) xs ++ last_lines lang (run_counts (world_with lang.program h) no_counts xs) s

-- The status of an ending.
abbrev pub status_of : Ending → ℕ
status_of At_end = 0
status_of (At_line number why) = 1

-- ---- the plain program: it computes the report, each daemon doing what is due

-- More asks than ever follow one event.
abbrev pub many_asks : ℕ
many_asks = 16

-- The asks that follow an event: their lines, and the world and counts after them.
pub record AsksPlayed : Type 0 where
  pub lines : List (List ℕ)
  pub world : World
  pub counts : Counts

-- So many at most.
abbrev pub play_asks : ℕ → World → Counts → AsksPlayed
play_asks zero w k = record { lines = []; world = w; counts = k }
play_asks (suc n) w k =
    elim (asking w) [
      | None ↦ record { lines = []; world = w; counts = k }
      | Some m ↦
          let fxs : List Effects = effects_of w (GiveAsk m) in
          let p : AsksPlayed = play_asks n (happens w (GiveAsk m) fxs) (count_event w (GiveAsk m) fxs k) in
          record p { lines = event_lines w (GiveAsk m) fxs ++ p.lines }
    ]

-- From a world and counts on.
abbrev pub replay_from : Language → World → Counts → List EventLine → List (List ℕ)
replay_from lang w k [] = end_line k ∷ []
replay_from lang w k (l ∷ ls) =
    elim l.1 [
      | Err r ↦ refusal_line l.0 (lang.told r) ∷ []
      | Ok e ↦ elim (refusal_of w e) [
        | Some r ↦ refusal_line l.0 (lang.told r) ∷ []
        | None ↦
            let fxs : List Effects = effects_of w e in
            let p : AsksPlayed = play_asks many_asks (happens w e fxs) (count_event w e fxs k) in
            event_lines w e fxs ++ p.lines ++ replay_from lang p.world p.counts ls
      ]
    ]

-- The report of a source.
abbrev pub replay_lines : Language → List ℕ → List (List ℕ)
replay_lines lang source =
    elim (read_header lang [] 1 (numbered_lines source)) [
      | Header_refused number why ↦ refusal_line number (lang.told why) ∷ []
      | Header_read h rest ↦ replay_from lang (world_with lang.program h) no_counts (event_lines_of lang h rest)
    ]
