-- A header that is read whole, with more lines behind it.
use Rattle.sl_reader.proofs.FirstLines.{line_first}
use Rattle.sl_report.specs.HeaderLines.{HeaderLine, header_of}
use Rattle.sl_report.specs.Languages.{is_skipped, whole_language}
use Rattle.sl_report.specs.ReadLines.{header_line_in}
use Rattle.sl_report.specs.Schedules.{HeaderReading, Header_read, Header_refused, NumberedLine, default_area, default_sector, greatest_source, header_line_refusal, is_begin, line_refusal, numbered_from, numbered_lines, read_header, with_line}
use Rattle.sl_run.specs.declared.event.Refusal.{Refusal}
use Rattle.sl_run.specs.declared.header.Header.{Header}
use Rattle.sl_text.specs.Forms.{as_bytes, is_free_of, lines_of}
use Rattle.sl_words.proofs.WordLaws.{and_true}
use Rattle.sl_words.specs.Words.{some_is}
use Rattle.std.proofs.Common.{Bool, List, None, Option, Some, [], ap, ap₂, arith, false, length, length-append, refl, suc, sym, true, ℕ, ◌++◌, ◌+◌, ◌∙◌, ◌∷◌, ◌≡◌, ◌≤◌}
use Rattle.std.proofs.lemmas.Bool.Decides.{nat_tests}
use Rattle.std.proofs.lemmas.List.{append-nil, append_assoc}
use Rattle.std.specs.List.{list_all}
use Rattle.std.specs.Prelude.{min, nat_lt}

-- ---- lines, numbered

-- With their numbers, none of them past the limit.
abbrev plain : ℕ → ℕ → List (List ℕ) → List NumberedLine
plain start number [] = []
plain start number (l ∷ ls) = record { number = number; start = start; text = l; is_past = false } ∷ plain (start + length l + 1) (number + 1) ls

pub inside_then : (total end : ℕ) → end ≤ greatest_source → nat_lt greatest_source (min total end) ≡ false
inside_then total end h = grind (arith, nat_tests)

one_longer : (l bytes : List ℕ) → length ((l ++ 10 ∷ []) ++ bytes) ≡ length l + 1 + length bytes
one_longer l bytes = omega (arith, length-append (l ++ 10 ∷ []) bytes, length-append l (10 ∷ []))

same_end : (start l bytes all : ℕ) → all ≡ l + 1 + bytes → start + l + 1 + bytes ≡ start + all
same_end start l bytes all h = omega (arith, h)

same_number : (number count : ℕ) → number + 1 + count ≡ number + suc count
same_number number count = omega arith

ends_so : (start l bytes all : ℕ) → all ≡ l + 1 + bytes → start + all ≤ greatest_source → start + l + 1 + bytes ≤ greatest_source
ends_so start l bytes all h i = omega (arith, h, i)

first_ends : (start l bytes : ℕ) → start + l + 1 + bytes ≤ greatest_source → start + l + 1 ≤ greatest_source
first_ends start l bytes h = omega (arith, h)

no_more : (n : ℕ) → n ≡ n + 0
no_more n = omega arith

-- Lines, and what stands behind them.
numbered_apart : (ls : List (List ℕ)) (rest : List ℕ) (total start number : ℕ) → list_all (is_free_of 10) ls ≡ true → start + length (as_bytes ls) ≤ greatest_source
    → numbered_from total start number (lines_of (as_bytes ls ++ rest))
    ≡ plain start number ls ++ numbered_from total (start + length (as_bytes ls)) (number + length ls) (lines_of rest)
numbered_apart [] rest total start number free fits = ap₂ (λ s n. numbered_from total s n (lines_of rest)) (no_more start) (no_more number)
numbered_apart (l ∷ ls) rest total start number free fits =
    let parts = and_true (is_free_of 10 l) (list_all (is_free_of 10) ls) free in
    let long : length (as_bytes (l ∷ ls)) ≡ length l + 1 + length (as_bytes ls) = one_longer l (as_bytes ls) in
    let fits_then : start + length l + 1 + length (as_bytes ls) ≤ greatest_source = ends_so start (length l) (length (as_bytes ls)) (length (as_bytes (l ∷ ls))) long fits in
    let first : NumberedLine = record { number = number; start = start; text = l; is_past = false } in
    ap (λ b. numbered_from total start number (lines_of b)) (append_assoc (l ++ 10 ∷ []) (as_bytes ls) rest ∙ append_assoc l (10 ∷ []) (as_bytes ls ++ rest))
    ∙ ap (numbered_from total start number) (line_first l (as_bytes ls ++ rest) parts.0)
    ∙ ap (λ p. record { number = number; start = start; text = l; is_past = p } ∷ numbered_from total (start + length l + 1) (number + 1) (lines_of (as_bytes ls ++ rest)))
    (inside_then total (start + length l + 1) (first_ends start (length l) (length (as_bytes ls)) fits_then))
    ∙ ap (λ ns. first ∷ ns)
    (numbered_apart ls rest total (start + length l + 1) (number + 1) parts.1 fits_then
    ∙ ap₂ (λ s n. plain (start + length l + 1) (number + 1) ls ++ numbered_from total s n (lines_of rest))
    (same_end start (length l) (length (as_bytes ls)) (length (as_bytes (l ∷ ls))) long) (same_number number (length ls)))

-- ---- a header, and what stands behind it

-- What a line makes of the lines behind it, by its tests.
abbrev chosen : Option Refusal → Bool → Option Refusal → Bool → ℕ → Header → List NumberedLine → HeaderReading → HeaderReading → HeaderReading
chosen o skips why begin n h rest a c =
    elim o [
      | Some r ↦ Header_refused n r
      | None ↦ elim skips [
        | true ↦ a
        | false ↦ elim why [ Some r ↦ Header_refused n r | None ↦ elim begin [ true ↦ Header_read h rest | false ↦ c ] ]
      ]
    ]

abbrev IsReadBefore : Header → List NumberedLine → HeaderReading → HeaderReading → Type 0
IsReadBefore h more a b = a ≡ Header_read h [] → b ≡ Header_read h more

ended_then : (g h : Header) (xs more : List NumberedLine) → Header_read g xs ≡ Header_read h [] → Header_read g (xs ++ more) ≡ Header_read h more
ended_then g h xs more is =
    let headers : g ≡ h = cc in
    let none : xs ≡ [] = cc in
    ap₂ Header_read headers (ap (λ ys. ys ++ more) none)

chosen_then : (o : Option Refusal) (skips : Bool) (why : Option Refusal) (begin : Bool) (n : ℕ) (g h : Header) (xs more : List NumberedLine) (a b c d : HeaderReading)
    → IsReadBefore h more a b → IsReadBefore h more c d → IsReadBefore h more (chosen o skips why begin n g xs a c) (chosen o skips why begin n g (xs ++ more) b d)
chosen_then (Some r) skips why begin n g h xs more a b c d p q is = absurd cc
chosen_then None true why begin n g h xs more a b c d p q is = p is
chosen_then None false (Some r) begin n g h xs more a b c d p q is = absurd cc
chosen_then None false None true n g h xs more a b c d p q is = ended_then g h xs more is
chosen_then None false None false n g h xs more a b c d p q is = q is

-- Lines that are a whole header are one before others.
read_before : (xs more : List NumberedLine) (h : Header) (ls : List HeaderLine) (next : ℕ) → IsReadBefore h more (read_header whole_language ls next xs) (read_header whole_language ls next (xs ++ more))
read_before [] more h ls next is = absurd cc
read_before (l ∷ xs) more h ls next is =
    let read : Option HeaderLine = header_line_in whole_language (header_of default_sector default_area ls).geometry.area l.text in
    chosen_then (line_refusal l) (is_skipped l.text) (header_line_refusal whole_language ls read) (some_is is_begin read) l.number (header_of default_sector default_area ls) h xs more
    (read_header whole_language ls (l.number + 1) xs) (read_header whole_language ls (l.number + 1) (xs ++ more))
    (read_header whole_language (with_line ls read) (l.number + 1) xs) (read_header whole_language (with_line ls read) (l.number + 1) (xs ++ more))
    (read_before xs more h ls (l.number + 1)) (read_before xs more h (with_line ls read) (l.number + 1)) is

-- So bytes that are a whole header are one before others, and these follow.
pub header_before : (ls : List (List ℕ)) (h : Header) (rest : List ℕ) → list_all (is_free_of 10) ls ≡ true → length (as_bytes ls) ≤ greatest_source
    → read_header whole_language [] 1 (numbered_lines (as_bytes ls)) ≡ Header_read h []
    → read_header whole_language [] 1 (numbered_lines (as_bytes ls ++ rest))
    ≡ Header_read h (numbered_from (length (as_bytes ls ++ rest)) (length (as_bytes ls)) (length ls + 1) (lines_of rest))
header_before ls h rest free fits read =
    let total : ℕ = length (as_bytes ls ++ rest) in
    let alone : read_header whole_language [] 1 (plain 0 1 ls) ≡ Header_read h [] =
    ap (read_header whole_language [] 1) (sym (lines_alone ls free fits)) ∙ read in
    ap (read_header whole_language [] 1) (numbered_apart ls rest total 0 1 free (fits_first (length (as_bytes ls)) fits))
    ∙ read_before (plain 0 1 ls) (numbered_from total (0 + length (as_bytes ls)) (1 + length ls) (lines_of rest)) h [] 1 alone
    ∙ ap₂ (λ s n. Header_read h (numbered_from total s n (lines_of rest))) (none_before (length (as_bytes ls))) (one_before (length ls))
  where
    fits_first : (n : ℕ) → n ≤ greatest_source → 0 + n ≤ greatest_source
    fits_first n h = omega (arith, h)

    none_before : (n : ℕ) → 0 + n ≡ n
    none_before n = omega arith

    one_before : (n : ℕ) → 1 + n ≡ n + 1
    one_before n = omega arith

    lines_alone : (ls : List (List ℕ)) → list_all (is_free_of 10) ls ≡ true → length (as_bytes ls) ≤ greatest_source → numbered_lines (as_bytes ls) ≡ plain 0 1 ls
    lines_alone ls free fits =
        ap (λ b. numbered_from (length (as_bytes ls)) 0 1 (lines_of b)) (sym (append-nil (as_bytes ls)))
        ∙ numbered_apart ls [] (length (as_bytes ls)) 0 1 free (fits_first (length (as_bytes ls)) fits) ∙ append-nil (plain 0 1 ls)

-- The same of a text that is these lines, of so many bytes and lines.
pub header_behind : (ls : List (List ℕ)) (h : Header) (text rest : List ℕ) (bytes lines : ℕ) → list_all (is_free_of 10) ls ≡ true → length (as_bytes ls) ≤ greatest_source
    → read_header whole_language [] 1 (numbered_lines (as_bytes ls)) ≡ Header_read h [] → text ≡ as_bytes ls → bytes ≡ length text → lines ≡ length ls
    → read_header whole_language [] 1 (numbered_lines (text ++ rest)) ≡ Header_read h (numbered_from (length (text ++ rest)) bytes (lines + 1) (lines_of rest))
header_behind ls h text rest bytes lines free fits read is long many =
    ap (λ b. read_header whole_language [] 1 (numbered_lines (b ++ rest))) is ∙ header_before ls h rest free fits read
    ∙ ap (λ b. Header_read h (numbered_from (length (b ++ rest)) (length b) (length ls + 1) (lines_of rest))) (sym is)
    ∙ ap₂ (λ s n. Header_read h (numbered_from (length (text ++ rest)) s (n + 1) (lines_of rest))) (sym long) (sym many)
