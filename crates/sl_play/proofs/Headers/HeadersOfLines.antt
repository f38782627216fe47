-- A header that was read is that of lines each of which was taken behind those before it, the last one being `begin`.
use Rattle.sl_play.proofs.Headers.TakenLines.{AreHeaderLines, IsLineBehind, area_so_far, one_more}
use Rattle.sl_report.specs.Languages.{language_of, whole_language}
use Rattle.sl_report.specs.ReadLines.{header_line_in}
use Rattle.sl_report.specs.HeaderLines.{BeginLine, HeaderLine, header_forms, header_of}
use Rattle.sl_report.specs.Schedules.{HeaderReading, Header_read, Header_refused, NumberedLine, default_area, default_sector, header_line_refusal, is_begin, line_refusal, read_header, with_line}
use Rattle.sl_run.specs.Worlds.{Program}
use Rattle.sl_run.specs.declared.event.Refusal.TheVariants.{Syntax}
use Rattle.sl_run.specs.declared.event.Refusal.{Refusal}
use Rattle.sl_run.specs.declared.header.Header.{Header}
use Rattle.sl_text.specs.Forms.{made_by, words_of}
use Rattle.sl_words.specs.Words.{some_is}
use Rattle.std.proofs.Common.{Bool, List, None, Option, Some, [], ap, false, refl, subst, sym, true, ℕ, ◌++◌, ◌+◌, ◌∙◌, ◌∷◌, ◌≡◌}

-- ---- one line and those behind it

-- What a line makes of the lines behind it, where they are read on as told.
abbrev after_line : List HeaderLine → NumberedLine → List NumberedLine → (List HeaderLine → HeaderReading) → Option Refusal → Bool → Option HeaderLine → Option Refusal → HeaderReading
after_line ls l rest on unread skipped read why =
    elim unread [
      | Some r ↦ Header_refused l.number r
      | None ↦ elim skipped [
        | true ↦ on ls
        | false ↦ elim why [
          | Some r ↦ Header_refused l.number r
          | None ↦ elim (some_is is_begin read) [
            | true ↦ Header_read (header_of default_sector default_area ls) rest
            | false ↦ on (with_line ls read)
          ]
        ]
      ]
    ]

-- The size of areas in the header that these lines give.
abbrev area_of : List HeaderLine → ℕ
area_of ls = (header_of default_sector default_area ls).geometry.area

-- ---- whatever the commands

goes_on : (begin : Bool) (here : HeaderReading) (some other : List HeaderLine → HeaderReading) (ls : List HeaderLine) → some ls ≡ other ls
    → ◌≡◌ {A = HeaderReading} (elim begin [ true ↦ here | false ↦ some ls ]) (elim begin [ true ↦ here | false ↦ other ls ])
goes_on true here some other ls same = refl
goes_on false here some other ls same = same

same_after : (ls : List HeaderLine) (l : NumberedLine) (rest : List NumberedLine) (some other : List HeaderLine → HeaderReading) → ((ms : List HeaderLine) → some ms ≡ other ms)
    → (unread : Option Refusal) (skipped : Bool) (read : Option HeaderLine) (why : Option Refusal)
    → after_line ls l rest some unread skipped read why ≡ after_line ls l rest other unread skipped read why
same_after ls l rest some other same (Some r) skipped read why = refl
same_after ls l rest some other same None true read why = same ls
same_after ls l rest some other same None false read (Some r) = refl
same_after ls l rest some other same None false read None =
    goes_on (some_is is_begin read) (Header_read (header_of default_sector default_area ls) rest) some other (with_line ls read) (same (with_line ls read))

same_refusal : (p : Program) (ls : List HeaderLine) (o : Option HeaderLine) → header_line_refusal (language_of p) ls o ≡ header_line_refusal whole_language ls o
same_refusal p ls None = refl
same_refusal p ls (Some l) = refl

-- A header is read alike, whatever commands its daemons read.
pub read_alike : (p : Program) (lines : List NumberedLine) (ls : List HeaderLine) (next : ℕ) → read_header (language_of p) ls next lines ≡ read_header whole_language ls next lines
read_alike p [] ls next = refl
read_alike p (l ∷ after) ls next =
    let read : Option HeaderLine = header_line_in whole_language (area_of ls) l.text in
    same_after ls l after (λ ms. read_header (language_of p) ms (l.number + 1) after) (λ ms. read_header whole_language ms (l.number + 1) after)
    (λ ms. read_alike p after ms (l.number + 1)) (line_refusal l) (whole_language.skips l.text) read (header_line_refusal (language_of p) ls read)
    ∙ ap (after_line ls l after (λ ms. read_header whole_language ms (l.number + 1) after) (line_refusal l) (whole_language.skips l.text) read) (same_refusal p ls read)

-- ---- lines of a header

pub record IsOfLines (h : Header) : Type 0 where
  pub lines : List HeaderLine
  pub taken : AreHeaderLines lines
  pub begun : IsLineBehind lines BeginLine
  pub is : h ≡ header_of default_sector default_area lines

no_header : (n : ℕ) (why : Refusal) (h : Header) (rest : List NumberedLine) → Header_refused n why ≡ Header_read h rest → ⊥
no_header n why h rest e = absurd cc

ends : (l : HeaderLine) → is_begin l ≡ true → l ≡ BeginLine
ends BeginLine h = refl
ends l h = absurd cc

same_header : (a b : Header) (xs ys : List NumberedLine) → Header_read a xs ≡ Header_read b ys → a ≡ b
same_header a b xs ys e = cc

-- What follows a line that isn't refused.
going_on : (ls : List HeaderLine) (l : HeaderLine) (begin : Bool) (next : HeaderReading) (h : Header) (after rest : List NumberedLine) → AreHeaderLines ls → IsLineBehind ls l → is_begin l ≡ begin
    → (AreHeaderLines (ls ++ l ∷ []) → next ≡ Header_read h rest → IsOfLines h)
    → elim begin [ true ↦ Header_read (header_of default_sector default_area ls) after | false ↦ next ] ≡ Header_read h rest → IsOfLines h
going_on ls l true next h after rest all last is again e =
    record {
      lines = ls;
      taken = all;
      begun = subst (λ (m : HeaderLine). IsLineBehind ls m) (ends l is) last;
      is = sym (same_header (header_of default_sector default_area ls) h after rest e);
    }
going_on ls l false next h after rest all last is again e = again (one_more [] ls l all last) e

area_is : (ls : List HeaderLine) → area_of ls ≡ area_so_far ls
unfolding header_of
area_is ls = refl

-- What follows a line, by why it is refused.
at_line : (ls : List HeaderLine) (l : NumberedLine) (after : List NumberedLine) (h : Header) (rest : List NumberedLine) (on : List HeaderLine → HeaderReading)
    → (unread : Option Refusal) (skipped : Bool) (read : Option HeaderLine) (why : Option Refusal) → AreHeaderLines ls
    → header_line_in whole_language (area_of ls) l.text ≡ read → header_line_refusal whole_language ls read ≡ why
    → ((ms : List HeaderLine) → AreHeaderLines ms → on ms ≡ Header_read h rest → IsOfLines h)
    → after_line ls l after on unread skipped read why ≡ Header_read h rest → IsOfLines h
at_line ls l after h rest on (Some r) skipped read why all made refused again e = absurd (no_header l.number r h rest e)
at_line ls l after h rest on None true read why all made refused again e = again ls all e
at_line ls l after h rest on None false read (Some r) all made refused again e = absurd (no_header l.number r h rest e)
at_line ls l after h rest on None false None None all made refused again e = absurd cc
at_line ls l after h rest on None false (Some m) None all made refused again e =
    going_on ls m (is_begin m) (on (ls ++ m ∷ [])) h after rest all
    (record { words = words_of l.text; made = ap (λ n. made_by (header_forms n) (words_of l.text)) (sym (area_is ls)) ∙ made; taken = refused }) refl (again (ls ++ m ∷ [])) e

pub read_lines : (lines : List NumberedLine) (ls : List HeaderLine) (next : ℕ) (h : Header) (rest : List NumberedLine) → AreHeaderLines ls
    → read_header whole_language ls next lines ≡ Header_read h rest → IsOfLines h
read_lines [] ls next h rest all e = absurd (no_header next Syntax h rest e)
read_lines (l ∷ after) ls next h rest all e =
    let read : Option HeaderLine = header_line_in whole_language (area_of ls) l.text in
    at_line ls l after h rest (λ ms. read_header whole_language ms (l.number + 1) after) (line_refusal l) (whole_language.skips l.text) read (header_line_refusal whole_language ls read) all refl refl
    (λ ms taken. read_lines after ms (l.number + 1) h rest taken) e
