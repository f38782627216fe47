-- The case that is told of a machine is true of it.
use Rattle.sl_book.proofs.Fronts.{prefix_trans}
use Rattle.sl_book.proofs.Givens.{entries_length, entries_prefix, given_prefix}
use Rattle.sl_book.specs.Logs.{entries, given_by}
use Rattle.sl_book.specs.Mails.{IsReading, LedgerState, ReaderState}
use Rattle.sl_book.specs.declared.mail.Reading.TheVariants as reading
use Rattle.sl_book.specs.declared.mail.Reading.{Reading}
use Rattle.sl_live_lines.specs.AuditedHistory.{AreLines, DiffersBehind, Differs_at, Differs_at_end, IsNext, KeepsAsks, LineDiffers, lines_along}
use Rattle.sl_live_lines.specs.LocksAlong.{AlongState}
use Rattle.sl_live_lines.specs.declared.audit.Left.TheVariants.{Call as CallLeft, Line as LineLeft, Start as StartLeft}
use Rattle.sl_live_lines.specs.declared.audit.Left.{Left as LeftOf}
use Rattle.sl_live_lines.specs.declared.given_lines.GivenLine.{GivenLine}
use Rattle.sl_live_machine.specs.MachineEnds.{Counts, EndsWith}
use Rattle.sl_live_machine.specs.Printing.{IsWrong, lines_read}
use Rattle.sl_live_machine.specs.declared.machine.CloseError.TheVariants as close
use Rattle.sl_live_machine.specs.declared.machine.CloseError.{CloseError}
use Rattle.sl_live_run.specs.Runs.{IsLiveCase}
use Rattle.sl_live_run.specs.Settling.{come_to, left_case}
use Rattle.sl_live_run.specs.declared.compare.LiveDiffer.TheVariants.{Cell, Line}
use Rattle.sl_live_run.specs.declared.compare.LiveDiffer.{LiveDiffer}
use Rattle.sl_live_run.specs.declared.compare.Settled.TheVariants.{Case}
use Rattle.sl_trace.specs.Traces.{Setting, Trace}
use Rattle.sl_trace.specs.declared.effects.Entry.{Entry}
use Rattle.std.proofs.Common.{List, ap, arith, inl, inr, length, refl, subst, ◌++◌, ◌+◌, ◌<◌, ◌∙◌, ◌∷◌, ◌≡◌, [], ℕ}
use Rattle.std.specs.Prelude.{Bool, Err, None, Ok, Option, Result, Some, false, true}
use mathlib.Core.List.{IsPrefix}

-- ---- a line that differs

next_more : (past : List GivenLine) (next : Option GivenLine) (given more : List GivenLine) → IsNext past next given → IsPrefix given more → IsNext past next more
next_more past None given more so p = prefix_trans past given more so p
next_more past (Some l) given more so p = prefix_trans (past ++ l ∷ []) given more so p

-- Of more lines it is the same.
differs_more : (a : AlongState) (h : List Entry) (given more : List GivenLine) (before : List Entry) → IsPrefix given more → DiffersBehind a h given before → DiffersBehind a h more before
differs_more a h given more before p so = record {
  entry = so.entry;
  more = so.more;
  parts = so.parts;
  asks = so.asks;
  next = so.next;
  comes = next_more (lines_along a before) so.next given more so.comes p;
  other = so.other;
}

wrong_so : (a : AlongState) (h : List Entry) (read due : List GivenLine) (number : ℕ) → IsPrefix read due → IsWrong a h read number → LineDiffers a h due number
wrong_so a h read due number p wrong = Differs_at wrong.0 wrong.1 (differs_more a h read due wrong.0 p wrong.2)

-- ---- what was read beside what was given

-- What was read, of what was given: the first ones; and where threads ended in time, all, or not all.
pub record Met (early : Bool) (r : Reading) (read due : List GivenLine) : Type 0 where
  pub first : (r ≡ reading.Apart → ⊥) → IsPrefix read due
  pub all : early ≡ false → r ≡ reading.All → read ≡ due
  pub part : early ≡ false → r ≡ reading.Part → length read < length due

first_read : (r : Reading) (reader : ReaderState GivenLine) (l : LedgerState GivenLine) (due : List GivenLine) → IsPrefix (entries (given_by reader.by l.front)) due
    → IsReading r reader l → (r ≡ reading.Apart → ⊥) → IsPrefix (lines_read reader) due
first_read reading.All reader l due given read there =
    prefix_trans (lines_read reader) (entries (given_by reader.by l.front)) due
    (entries_prefix (given_by reader.by reader.front) (given_by reader.by l.front) (given_prefix reader.by reader.front l.front read.0)) given
first_read reading.Part reader l due given read there =
    prefix_trans (lines_read reader) (entries (given_by reader.by l.front)) due
    (entries_prefix (given_by reader.by reader.front) (given_by reader.by l.front) (given_prefix reader.by reader.front l.front read.0)) given
first_read reading.Apart reader l due given read there = absurd (there refl)

all_read : (r : Reading) (reader : ReaderState GivenLine) (l : LedgerState GivenLine) (due : List GivenLine) → entries (given_by reader.by l.front) ≡ due → IsReading r reader l
    → r ≡ reading.All → lines_read reader ≡ due
all_read reading.All reader l due given read is = ap entries read.1 ∙ given
all_read reading.Part reader l due given read is = absurd (cc is)
all_read reading.Apart reader l due given read is = absurd (cc is)

part_read : (r : Reading) (reader : ReaderState GivenLine) (l : LedgerState GivenLine) (due : List GivenLine) → entries (given_by reader.by l.front) ≡ due → IsReading r reader l
    → r ≡ reading.Part → length (lines_read reader) < length due
part_read reading.All reader l due given read is = absurd (cc is)
part_read reading.Part reader l due given read is =
    let less = read.1 in
    let had = entries_length (given_by reader.by reader.front) in
    let all = entries_length (given_by reader.by l.front) in
    let same = ap length given in
    omega (arith, less, had, all, same)
part_read reading.Apart reader l due given read is = absurd (cc is)

pub met : (early : Bool) (r : Reading) (reader : ReaderState GivenLine) (l : LedgerState GivenLine) (due : List GivenLine) → IsPrefix (entries (given_by reader.by l.front)) due
    → (early ≡ false → entries (given_by reader.by l.front) ≡ due) → IsReading r reader l → Met early r (lines_read reader) due
met early r reader l due given exact read = record {
  first = first_read r reader l due given read;
  all = λ in_time is. all_read r reader l due (exact in_time) read is;
  part = λ in_time is. part_read r reader l due (exact in_time) read is;
}

-- ---- a case

one_case : (c d : LiveDiffer) → Case c ≡ Case d → c ≡ d
one_case c d is = cc is

all_not_apart : reading.All ≡ reading.Apart → ⊥
all_not_apart is = absurd (cc is)

part_not_apart : reading.Part ≡ reading.Apart → ⊥
part_not_apart is = absurd (cc is)

-- At the end of a whole history not all lines were met.
ends_short : (a : AlongState) (h : List Entry) (read due : List GivenLine) (n : ℕ) → n ≡ length h → lines_along a h ≡ read → KeepsAsks a h
    → length read < length due → LineDiffers a h due (n + 1)
ends_short a h read due n count lines asks less = Differs_at_end (ap (λ k. k + 1) count) asks (inr (let same = ap length lines in omega (arith, same, less)))

left_so : {D : Type 0} (stands : D → Setting → Trace → Type 0) (st : Setting) (a : AlongState) (h : List Entry) (read due : List GivenLine) (n : ℕ) (left : LeftOf) → read ≡ due
    → EndsWith stands st a h read (Err (close.Left left)) → n ≡ length h → IsLiveCase stands st a due (left_case left (n + 1))
left_so stands st a h read due n LineLeft all ends count = (h, ends.0, Differs_at_end (ap (λ k. k + 1) count) ends.1.1 (inl ends.1.2))
left_so stands st a h read due n (CallLeft number call) all ends count = (h, ends.0, record { lines = ends.1.0 ∙ all; asks = ends.1.1; left = ends.1.2 })
left_so stands st a h read due n (StartLeft number process) all ends count = (h, ends.0, record { lines = ends.1.0 ∙ all; asks = ends.1.1; left = ends.1.2 })

pub case_so : {D : Type 0} (stands : D → Setting → Trace → Type 0) (st : Setting) (a : AlongState) (h : List Entry) (read due : List GivenLine) (early : Bool) (r : Reading)
    (end : Result Unit CloseError) (n : ℕ) (d : LiveDiffer) → EndsWith stands st a h read end → Counts h n end → Met early r read due → come_to early r end (n + 1) ≡ Case d
    → IsLiveCase stands st a due d
case_so stands st a h read due true r (Err (close.Differ c)) n d ends count so is = subst (IsLiveCase stands st a due) (one_case (Cell c) d is) ends
case_so stands st a h read due false r (Err (close.Differ c)) n d ends count so is = subst (IsLiveCase stands st a due) (one_case (Cell c) d is) ends
case_so stands st a h read due true r (Err close.NoMemory) n d ends count so is = absurd (cc is)
case_so stands st a h read due false r (Err close.NoMemory) n d ends count so is = absurd (cc is)
case_so stands st a h read due true reading.All (Err (close.Line number)) n d ends count so is =
    subst (IsLiveCase stands st a due) (one_case (Line number) d is) (h, ends.0, wrong_so a h read due number (so.first all_not_apart) ends.1)
case_so stands st a h read due true reading.Part (Err (close.Line number)) n d ends count so is =
    subst (IsLiveCase stands st a due) (one_case (Line number) d is) (h, ends.0, wrong_so a h read due number (so.first part_not_apart) ends.1)
case_so stands st a h read due true reading.Apart (Err (close.Line number)) n d ends count so is = absurd (cc is)
case_so stands st a h read due false reading.All (Err (close.Line number)) n d ends count so is =
    subst (IsLiveCase stands st a due) (one_case (Line number) d is) (h, ends.0, wrong_so a h read due number (so.first all_not_apart) ends.1)
case_so stands st a h read due false reading.Part (Err (close.Line number)) n d ends count so is =
    subst (IsLiveCase stands st a due) (one_case (Line number) d is) (h, ends.0, wrong_so a h read due number (so.first part_not_apart) ends.1)
case_so stands st a h read due false reading.Apart (Err (close.Line number)) n d ends count so is = absurd (cc is)
case_so stands st a h read due true r (Err (close.Left left)) n d ends count so is = absurd (cc is)
case_so stands st a h read due false reading.All (Err (close.Left left)) n d ends count so is =
    subst (IsLiveCase stands st a due) (one_case (left_case left (n + 1)) d is) (left_so stands st a h read due n left (so.all refl refl) ends count)
case_so stands st a h read due false reading.Part (Err (close.Left left)) n d ends count so is =
    subst (IsLiveCase stands st a due) (one_case (Line (n + 1)) d is) (h, ends.0, ends_short a h read due n count ends.1.0 ends.1.1 (so.part refl refl))
case_so stands st a h read due false reading.Apart (Err (close.Left left)) n d ends count so is = absurd (cc is)
case_so stands st a h read due true r (Ok u) n d ends count so is = absurd (cc is)
case_so stands st a h read due false reading.All (Ok u) n d ends count so is = absurd (cc is)
case_so stands st a h read due false reading.Part (Ok u) n d ends count so is =
    let lines : AreLines a h read = ends.1.0 in
    subst (IsLiveCase stands st a due) (one_case (Line (n + 1)) d is) (h, ends.0, ends_short a h read due n count lines.lines lines.asks (so.part refl refl))
case_so stands st a h read due false reading.Apart (Ok u) n d ends count so is = absurd (cc is)
