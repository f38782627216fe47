-- Reading a header, one line at a time.
use Rattle.sl_report.specs.Languages.{is_skipped, whole_language}
use Rattle.sl_report.specs.ReadLines.{header_line_in}
use Rattle.sl_report.specs.HeaderLines.{HeaderLine, header_of}
use Rattle.sl_report.specs.Schedules.{HeaderReading, Header_read, Header_refused, NumberedLine, default_area, default_sector, header_line_refusal, is_begin, line_refusal, read_header, with_line}
use Rattle.sl_run.specs.declared.event.Refusal.TheVariants.{Syntax}
use Rattle.sl_run.specs.declared.event.Refusal.{Refusal}
use Rattle.sl_run.specs.declared.header.Header.{Header}
use Rattle.sl_schedule.specs.HeadersSoFar.{answer_after, lines_after}
use Rattle.sl_schedule.specs.declared.header.Added.TheVariants.{Begun, More, Refused}
use Rattle.sl_schedule.specs.declared.header.Added.{Added}
use Rattle.sl_words.proofs.ListLaws.{first_and_others}
use Rattle.sl_words.specs.Words.{first_of_list, some_is}
use Rattle.std.proofs.Common.{Bool, List, None, Option, Some, [], ap, drop, false, refl, sym, true, ℕ, ◌+◌, ◌∙◌, ◌∷◌, ◌≡◌}

-- What the answer to a line makes of the lines behind it.
abbrev pub going_on : Added → List HeaderLine → ℕ → List NumberedLine → HeaderReading
going_on More ls number rest = read_header whole_language ls (number + 1) rest
going_on (Begun h) ls number rest = Header_read h rest
going_on (Refused why) ls number rest = Header_refused number why

-- Whatever the tests say.
stepped : (skipped : Bool) (why : Option Refusal) (begin : Bool) (ls more : List HeaderLine) (h : Header) (number : ℕ) (rest : List NumberedLine)
    → elim skipped [
      | true ↦ read_header whole_language ls (number + 1) rest
      | false ↦ elim why [
        | Some r ↦ Header_refused number r
        | None ↦ elim begin [ true ↦ Header_read h rest | false ↦ read_header whole_language more (number + 1) rest ]
      ]
    ]
    ≡ going_on (elim skipped [ true ↦ More | false ↦ elim why [ Some r ↦ Refused r | None ↦ elim begin [ true ↦ Begun h | false ↦ More ] ] ])
    (elim skipped [ true ↦ ls | false ↦ elim why [ Some r ↦ ls | None ↦ elim begin [ true ↦ [] | false ↦ more ] ] ]) number rest
stepped true why begin ls more h number rest = refl
stepped false (Some r) begin ls more h number rest = refl
stepped false None true ls more h number rest = refl
stepped false None false ls more h number rest = refl

-- A line that is not refused before it is read.
pub read_header-line : (ls : List HeaderLine) (next : ℕ) (l : NumberedLine) (rest : List NumberedLine) → line_refusal l ≡ None
    → read_header whole_language ls next (l ∷ rest) ≡ going_on (answer_after ls l.text) (lines_after ls l.text) l.number rest
read_header-line ls next l rest none =
    let read : Option HeaderLine = header_line_in whole_language (header_of default_sector default_area ls).geometry.area l.text in
    let why : Option Refusal = header_line_refusal whole_language ls read in
    ap (λ o. elim o [
      | Some r ↦ Header_refused l.number r
      | None ↦ elim (is_skipped l.text) [
        | true ↦ read_header whole_language ls (l.number + 1) rest
        | false ↦ elim why [
          | Some r ↦ Header_refused l.number r
          | None ↦ elim (some_is is_begin read) [
            | true ↦ Header_read (header_of default_sector default_area ls) rest
            | false ↦ read_header whole_language (with_line ls read) (l.number + 1) rest
          ]
        ]
      ]
    ]) none
    ∙ stepped (is_skipped l.text) why (some_is is_begin read) ls (with_line ls read) (header_of default_sector default_area ls) l.number rest

-- A line that is.
pub read_header-refused : (ls : List HeaderLine) (next : ℕ) (l : NumberedLine) (rest : List NumberedLine) (why : Refusal) → line_refusal l ≡ Some why
    → read_header whole_language ls next (l ∷ rest) ≡ Header_refused l.number why
read_header-refused ls next l rest why refused =
    let read : Option HeaderLine = header_line_in whole_language (header_of default_sector default_area ls).geometry.area l.text in
    ap (λ o. elim o [
      | Some r ↦ Header_refused l.number r
      | None ↦ elim (is_skipped l.text) [
        | true ↦ read_header whole_language ls (l.number + 1) rest
        | false ↦ elim (header_line_refusal whole_language ls read) [
          | Some r ↦ Header_refused l.number r
          | None ↦ elim (some_is is_begin read) [
            | true ↦ Header_read (header_of default_sector default_area ls) rest
            | false ↦ read_header whole_language (with_line ls read) (l.number + 1) rest
          ]
        ]
      ]
    ]) refused

-- The first of the lines that are left, by the answer to it.
pub told : (ls : List HeaderLine) (next : ℕ) (lines : List NumberedLine) (l : NumberedLine) (rest : List NumberedLine) → Some l ≡ first_of_list lines
    → rest ≡ drop 1 lines → None ≡ line_refusal l → (added : Added) → added ≡ answer_after ls l.text
    → going_on added (lines_after ls l.text) l.number rest ≡ read_header whole_language ls next lines
told ls next lines l rest first behind none added answer =
    ap (λ a. going_on a (lines_after ls l.text) l.number rest) answer
    ∙ ap (λ more. going_on (answer_after ls l.text) (lines_after ls l.text) l.number more) behind
    ∙ sym (read_header-line ls next l (drop 1 lines) (sym none))
    ∙ ap (read_header whole_language ls next) (sym (first_and_others lines l (sym first)))

-- .. where it is refused before it is read.
pub refused_first : (ls : List HeaderLine) (next : ℕ) (lines : List NumberedLine) (l : NumberedLine) (why : Refusal) → Some l ≡ first_of_list lines
    → Some why ≡ line_refusal l → Header_refused l.number why ≡ read_header whole_language ls next lines
refused_first ls next lines l why first is =
    sym (read_header-refused ls next l (drop 1 lines) why (sym is)) ∙ ap (read_header whole_language ls next) (sym (first_and_others lines l (sym first)))

-- .. and where no line is left.
pub none_left : (ls : List HeaderLine) (next : ℕ) (lines : List NumberedLine) → None ≡ first_of_list lines
    → Header_refused next Syntax ≡ read_header whole_language ls next lines
none_left ls next [] h = refl
none_left ls next (l ∷ lines) h = absurd cc
