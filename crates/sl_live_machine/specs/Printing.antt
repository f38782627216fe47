-- What a machine's printer knows of the history that it has seen.
use Rattle.sl_book.specs.Logs.{entries, given_by}
use Rattle.sl_book.specs.Mails.{PostedState, ReaderState}
use Rattle.sl_book.specs.Seats.{IsMine}
use Rattle.sl_live_lines.specs.AuditedHistory.{DiffersBehind, IsAudit, lines_along, own_lines}
use Rattle.sl_live_lines.specs.EventTexts.{Telling}
use Rattle.sl_live_lines.specs.LiveTexts.{history_text}
use Rattle.sl_live_lines.specs.LocksAlong.{AlongState}
use Rattle.sl_live_machine.specs.declared.printer.Printer.{Printer}
use Rattle.sl_live_lines.specs.declared.given_lines.GivenLine.{GivenLine}
use Rattle.sl_trace.specs.declared.effects.Entry.{Entry}
use Rattle.std.specs.List.{concat}
use Rattle.std.specs.Prelude.{List, None, Option, Some, length, [], ℕ, ◌++◌, ◌+◌, ◌∷◌, ◌≡◌}

-- The script's lines that a reader has met.
abbrev pub lines_read : ReaderState GivenLine → List GivenLine
lines_read r = entries (given_by r.by r.front)

-- The line that is posted, if one is.
abbrev pub line_of : Option (PostedState GivenLine) → Option GivenLine
line_of None = None
line_of (Some p) = Some p.element

-- What was met at an entry: nothing, and the reader is as it was; or a line where the entry has one of the script's own, and the reader has met it.
abbrev pub Meets : AlongState → Entry → ReaderState GivenLine → ReaderState GivenLine → Option (PostedState GivenLine) → Type 0
Meets locks e r r' None = r' ≡ r
Meets locks e r r' (Some p) = (lines_read r' ≡ lines_read r ++ p.element ∷ []) × ((l : GivenLine) × (own_lines locks e ≡ l ∷ []))

-- The line of the entry of this number is not the one due there, where the script had given these lines by then.
abbrev pub IsWrong : AlongState → List Entry → List GivenLine → ℕ → Type 0
IsWrong a h read number = (before : List Entry) × (number ≡ length before + 1) × DiffersBehind a h read before

-- Where no line was wrong, the history's lines are those of the script that were met, and what is told of it was put out, or is to be.
abbrev pub Goes : {J O T : Type 0} → Telling → AlongState → List Entry → Printer J O T → List ℕ → Option ℕ → Type 0
Goes t a h p out None = IsAudit t a h p.audit × (lines_along a h ≡ lines_read p.reader) × (out ≡ history_text (p.reader.by + 1) t a h)
Goes t a h p out (Some number) = IsWrong a h (lines_read p.reader) number

-- It went along this history.
pub record IsPrinting {J O T : Type 0} (t : Telling) (a : AlongState) (h : List Entry) (p : Printer J O T) : Type 0 where
  pub by : p.writer.by ≡ p.reader.by
  pub texts : List (List ℕ)
  pub mine : IsMine p.writer texts
  pub goes : Goes t a h p (concat texts ++ p.text.items) p.wrong
