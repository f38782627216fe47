-- The first line of what a source gives, and why it is refused.
use Rattle.sl_report.specs.Schedules.{NumberedLine, greatest_source, line_refusal, longest_line, numbered_from}
use Rattle.sl_run.specs.Worlds.{first_that}
use Rattle.sl_run.specs.declared.event.Refusal.TheVariants.{LimitBytes, Syntax}
use Rattle.sl_run.specs.declared.event.Refusal.{Refusal}
use Rattle.sl_reader.specs.LineReads.{FirstLine, Judges, RefusesLine, feed_of, with_feed}
use Rattle.memchr.specs.Find.{IsFirstByte, is_byte}
use Rattle.sl_text.proofs.PieceLaws.{first_piece, free_alone, free_at, pieces-front, text_at}
use Rattle.sl_text.specs.Forms.{is_free_of, lines_of, pieces, without_empty_last}
use Rattle.sl_words.proofs.WordLaws.{and_true}
use Rattle.std.proofs.Common.{Bool, List, None, Option, Some, [], ap, arith, cond, drop, eqb, false, length, length-append, ltb, min, not, refl, subst, suc, sym, true, zero, ℕ, ◌&&◌, ◌++◌, ◌+◌, ◌<◌, ◌≡◌, ◌≤◌, ◌∙◌, ◌∷◌}
use Rattle.std.proofs.lemmas.Bool.Decides.{nat_tests}
use Rattle.std.proofs.lemmas.Bool.{and_from, false_from_ne_true, not-true}
use Rattle.std.proofs.lemmas.List.Folds.{list_all-append}
use Rattle.std.proofs.lemmas.List.Prefix.{front_rest}
use Rattle.std.proofs.lemmas.List.Splits.{slice_split-cons_no}
use Rattle.std.proofs.lemmas.List.Sums.{position_or_len_is}
use Rattle.std.proofs.lemmas.List.{append-nil, append_assoc}
use Rattle.std.specs.List.{onto_first, position}
use Rattle.std.specs.Prelude.{nat_le, nat_lt}

-- ---- cutting

-- What is left behind a front with its line feed.
pub cut_at : (all front rest : List ℕ) → all ≡ front ++ 10 ∷ rest → all ≡ front ++ 10 ∷ drop (length front + 1) all
cut_at all front rest is =
    let whole : all ≡ (front ++ 10 ∷ []) ++ rest = is ∙ sym (append_assoc front (10 ∷ []) rest) in
    let len : length (front ++ 10 ∷ []) ≡ length front + 1 = length-append front (10 ∷ []) in
    is ∙ ap (λ r. front ++ 10 ∷ r) (sym (front_rest all (front ++ 10 ∷ []) rest whole) ∙ ap (λ n. drop n all) len)

-- .. and behind a front without one: nothing.
pub cut_none : (all : List ℕ) → all ≡ all ++ drop (length all) all
cut_none all = sym (append-nil all) ∙ ap (λ r. all ++ r) (sym (front_rest all all [] (sym (append-nil all))))

pub ruleset cutting = (cut_at, cut_none)

-- Where the search finds a line feed is the first of them.
pub feed_found : (bs : List ℕ) (r : Option ℕ) → IsFirstByte (is_byte 10) bs r → r ≡ position (λ b. eqb b 10) bs
feed_found bs None none =
    let at = position_or_len_is (λ b. eqb b 10) bs (length bs) 0 (omega arith) (λ k before. false_from_ne_true _ (none k (omega arith) before)) (λ behind. absurd (omega (arith, behind))) in
    let off : ltb (length bs) (length bs) ≡ false = grind (arith, nat_tests) in
    sym (ap (λ n. cond (ltb n (length bs)) (Some n) None) at ∙ ap (λ t. cond t (Some (length bs)) None) off)
feed_found bs (Some k) (before, here) =
    let at = position_or_len_is (λ b. eqb b 10) bs k 0 (let high = before.high in omega (arith, high)) (λ j low. false_from_ne_true _ (before.before j (omega arith) low)) (λ inside. here) in
    let on : ltb k (length bs) ≡ true = (let high = before.high in grind (arith, nat_tests, high)) in
    sym (ap (λ n. cond (ltb n (length bs)) (Some n) None) at ∙ ap (λ t. cond t (Some k) None) on)

-- What is known of a text that is cut there.
pub ruleset feeds = (text_at, free_at, free_alone)

pub free_both : (front more : List ℕ) → is_free_of 10 front ≡ true → is_free_of 10 more ≡ true → is_free_of 10 (front ++ more) ≡ true
free_both front more a b = list_all-append (λ b. not (eqb b 10)) front more ∙ and_from _ _ a b

-- ---- lines

-- A line before others stays, empty or not.
kept_line : (l m : List ℕ) (ls : List (List ℕ)) → without_empty_last (l ∷ m ∷ ls) ≡ l ∷ without_empty_last (m ∷ ls)
kept_line [] m ls = refl
kept_line (b ∷ l) m ls = refl

-- A line with its line feed, and what stands behind it.
pub line_first : (line rest : List ℕ) → is_free_of 10 line ≡ true → lines_of (line ++ 10 ∷ rest) ≡ line ∷ lines_of rest
line_first line rest free =
    let first = first_piece 10 rest in
    ap without_empty_last (pieces-front 10 line rest free) ∙ ap (λ ps. without_empty_last (line ∷ ps)) first.2 ∙ kept_line line first.0 first.1
    ∙ ap (λ ps. line ∷ without_empty_last ps) (sym first.2)

-- A text without a line feed begins the first piece.
piece_goes_on : (front rest piece : List ℕ) (others : List (List ℕ)) → is_free_of 10 front ≡ true → pieces 10 rest ≡ piece ∷ others
    → pieces 10 (front ++ rest) ≡ (front ++ piece) ∷ others
piece_goes_on [] rest piece others free is = is
piece_goes_on (b ∷ front) rest piece others free is =
    let parts = and_true (not (eqb b 10)) (is_free_of 10 front) free in
    slice_split-cons_no (λ b. eqb b 10) b (front ++ rest) (not-true _ parts.0) ∙ ap (onto_first b) (piece_goes_on front rest piece others parts.1 is)

-- The first piece, where it isn't empty, is the first line.
some_first : (b : ℕ) (line : List ℕ) (others : List (List ℕ)) → (ls : List (List ℕ)) × (without_empty_last ((b ∷ line) ∷ others) ≡ (b ∷ line) ∷ ls)
some_first b line [] = ([], refl)
some_first b line (m ∷ others) = (without_empty_last (m ∷ others), refl)

-- What follows a text without a line feed, up to the next one.
abbrev going_on : List ℕ → List ℕ
going_on rest = (first_piece 10 rest).0

front_first : (front rest : List ℕ) → is_free_of 10 front ≡ true → 0 < length front → (ls : List (List ℕ)) × (lines_of (front ++ rest) ≡ (front ++ going_on rest) ∷ ls)
front_first [] rest free some = absurd (omega arith)
front_first (b ∷ front) rest free some =
    let first = first_piece 10 rest in
    let ends = some_first b (front ++ first.0) first.1 in
    (ends.0, ap without_empty_last (piece_goes_on (b ∷ front) rest first.0 first.1 free first.2) ∙ ends.1)

-- The last line, without a line feed.
pub last_first : (line : List ℕ) → is_free_of 10 line ≡ true → 0 < length line → lines_of line ≡ line ∷ []
last_first [] free some = absurd (omega arith)
last_first (b ∷ line) free some =
    ap lines_of (sym (append-nil (b ∷ line))) ∙ ap without_empty_last (piece_goes_on (b ∷ line) [] [] [] free refl) ∙ ap (λ l. l ∷ []) (append-nil (b ∷ line))

-- ---- refusals

-- Both tests again hold, the first only where it held.
same_refusal : (a b c d : Bool) (why : Refusal) → (a ≡ true → c ≡ true) → (a ≡ false → b ≡ true → (c ≡ false) × (d ≡ true))
    → first_that ((a, Syntax) ∷ (b, LimitBytes) ∷ []) ≡ Some why → first_that ((c, Syntax) ∷ (d, LimitBytes) ∷ []) ≡ Some why
same_refusal true b c d why first second is = subst (λ t. first_that ((t, Syntax) ∷ (d, LimitBytes) ∷ []) ≡ Some why) (sym (first refl)) is
same_refusal false true c d why first second is =
    let k = second refl refl in
    subst (λ t. first_that ((t, Syntax) ∷ (d, LimitBytes) ∷ []) ≡ Some why) (sym k.0) (subst (λ t. first_that ((false, Syntax) ∷ (t, LimitBytes) ∷ []) ≡ Some why) (sym k.1) is)
same_refusal false false c d why first second is = absurd cc

abbrev is_long : ℕ → ℕ → Bool
is_long start len = nat_lt longest_line len && nat_le (start + longest_line + 1) greatest_source

stays_long : (start len more whole : ℕ) → whole ≡ len + more → is_long start len ≡ true → is_long start whole ≡ true
stays_long start len more whole is h = grind (arith, nat_tests)

stays_short : (start len more whole : ℕ) → whole ≡ len + more → is_long start len ≡ false → nat_lt greatest_source (start + len) ≡ true → is_long start whole ≡ false
stays_short start len more whole is short past = grind (arith, nat_tests)

stays_past : (start len more whole total : ℕ) → whole ≡ len + more → start + len ≤ total → nat_lt greatest_source (start + len) ≡ true
    → nat_lt greatest_source (min total (start + whole + 1)) ≡ true
stays_past start len more whole total is fits past = grind (arith, nat_tests)

-- A line that is refused has a byte.
some_byte : (start len : ℕ) (a b : Bool) (why : Refusal) → a ≡ is_long start len → b ≡ nat_lt greatest_source (start + len) → start ≤ greatest_source
    → first_that ((a, Syntax) ∷ (b, LimitBytes) ∷ []) ≡ Some why → 0 < len
some_byte start len true b why long past fits is = grind (arith, nat_tests)
some_byte start len false true why long past fits is = grind (arith, nat_tests)
some_byte start len false false why long past fits is = absurd cc

-- The line of a front that is refused: it goes on up to the next line feed.
abbrev front_line : ℕ → List ℕ → List ℕ → ℕ → NumberedLine
front_line start front rest number =
    record {
      number = number;
      start = start;
      text = front ++ going_on rest;
      is_past = nat_lt greatest_source (min (start + length (front ++ rest)) (start + length (front ++ going_on rest) + 1));
    }

front_refused : (start number : ℕ) (front rest : List ℕ) (why : Refusal)
    → line_refusal (record { number = 0; start = start; text = front; is_past = nat_lt greatest_source (start + length front) }) ≡ Some why
    → line_refusal (front_line start front rest number) ≡ Some why
front_refused start number front rest why is =
    let more : length (front ++ going_on rest) ≡ length front + length (going_on rest) = length-append front (going_on rest) in
    let fits : start + length front ≤ start + length (front ++ rest) = omega (arith, length-append front rest) in
    same_refusal (is_long start (length front)) (nat_lt greatest_source (start + length front)) (is_long start (length (front ++ going_on rest)))
    (nat_lt greatest_source (min (start + length (front ++ rest)) (start + length (front ++ going_on rest) + 1))) why
    (stays_long start (length front) (length (going_on rest)) (length (front ++ going_on rest)) more)
    (λ short past. (
      stays_short start (length front) (length (going_on rest)) (length (front ++ going_on rest)) more short past,
      stays_past start (length front) (length (going_on rest)) (length (front ++ going_on rest)) (start + length (front ++ rest)) more fits past,
    )) is

front_is_refused : (start : ℕ) (front : List ℕ) (why : Refusal) → start ≤ greatest_source → is_free_of 10 front ≡ true
    → line_refusal (record { number = 0; start = start; text = front; is_past = nat_lt greatest_source (start + length front) }) ≡ Some why → RefusesLine start front why
front_is_refused start front why inside free is =
    let some : 0 < length front = some_byte start (length front) _ _ why refl refl inside is in
    record {
      line = front_line start front;
      first = λ rest number. record {
        others = numbered_from (start + length (front ++ rest)) (start + length (front ++ going_on rest) + 1) (number + 1) (front_first front rest free some).0;
        lines = ap (numbered_from (start + length (front ++ rest)) start number) (front_first front rest free some).1;
      };
      numbered = λ rest number. refl;
      refused = λ rest number. front_refused start number front rest why is;
    }

abbrev whole_line : ℕ → List ℕ → List ℕ → ℕ → NumberedLine
whole_line start line bytes number =
    record { number = number; start = start; text = line; is_past = nat_lt greatest_source (min (start + length bytes) (start + length line + 1)) }

-- The line's end is at its line feed, whatever stands behind it.
ends_there : (start : ℕ) (line rest : List ℕ) → min (start + length (line ++ 10 ∷ rest)) (start + length line + 1) ≡ start + (length line + 1)
ends_there start line rest = omega (arith, length-append line (10 ∷ rest))

line_is_refused : (start : ℕ) (line left : List ℕ) (why : Refusal) → is_free_of 10 line ≡ true
    → line_refusal (record { number = 0; start = start; text = line; is_past = nat_lt greatest_source (start + (length line + 1)) }) ≡ Some why
    → RefusesLine start (line ++ 10 ∷ left) why
line_is_refused start line left why free is =
    record {
      line = λ rest number. whole_line start line (line ++ 10 ∷ (left ++ rest)) number;
      first = λ rest number. subst (λ bytes. FirstLine (start + length bytes) start number bytes (whole_line start line (line ++ 10 ∷ (left ++ rest)) number))
          (sym (append_assoc line (10 ∷ left) rest)) (record {
            others = numbered_from (start + length (line ++ 10 ∷ (left ++ rest))) (start + length line + 1) (number + 1) (lines_of (left ++ rest));
            lines = ap (numbered_from (start + length (line ++ 10 ∷ (left ++ rest))) start number) (line_first line (left ++ rest) free);
          });
      numbered = λ rest number. refl;
      refused = λ rest number. ap (λ n. line_refusal (record { number = number; start = start; text = line; is_past = nat_lt greatest_source n })) (ends_there start line (left ++ rest)) ∙ is;
    }

-- So what was read of a line is refused, with its line feed or without.
pub refused_at : (start : ℕ) (line left front : List ℕ) (ends : Bool) (why : Refusal) → start ≤ greatest_source → is_free_of 10 line ≡ true → is_free_of 10 front ≡ true
    → left ≡ front ++ (feed_of ends ++ drop (with_feed ends (length front)) left) → (ends ≡ false → front ≡ left)
    → Judges start (length line + length front) ends (Some why) → RefusesLine start (line ++ left) why
refused_at start line left front true why inside free more cut all is =
    let rest : List ℕ = drop (length front + 1) left in
    let same : (line ++ front) ++ 10 ∷ rest ≡ line ++ left = append_assoc line front (10 ∷ rest) ∙ ap (λ r. line ++ r) (sym cut) in
    subst (λ bytes. RefusesLine start bytes why) same
    (line_is_refused start (line ++ front) rest why (free_both line front free more) (is (line ++ front) (length-append line front)))
refused_at start line left front false why inside free more cut all is =
    subst (λ bytes. RefusesLine start (line ++ bytes) why) (all refl)
    (front_is_refused start (line ++ front) why inside (free_both line front free more) (is (line ++ front) (length-append line front)))

-- ---- judging

judged_ok : (start len k : ℕ) (a b : Bool) → a ≡ is_long start len → b ≡ nat_lt greatest_source (start + k) → len ≤ k → start ≤ greatest_source
    → first_that ((a, Syntax) ∷ (b, LimitBytes) ∷ []) ≡ None → (len ≤ longest_line) × (start + k ≤ greatest_source)
judged_ok start len k true b long past more fits is = absurd cc
judged_ok start len k false true long past more fits is = absurd cc
judged_ok start len k false false long past more fits is = (grind (arith, nat_tests), grind (arith, nat_tests))

-- A text of each length.
some_text : (n : ℕ) → (text : List ℕ) × (length text ≡ n)
some_text zero = ([], refl)
some_text (suc n) = let t = some_text n in (0 ∷ t.0, omega (arith, t.1))

pub judged : (start len : ℕ) (ends : Bool) (o : Option Refusal) → start ≤ greatest_source
    → ((text : List ℕ) (number : ℕ) → length text ≡ len → o ≡ line_refusal (record { number = number; start = start; text = text; is_past = nat_lt greatest_source (start + with_feed ends len) }))
    → Judges start len ends o
judged start len ends None inside is =
    let t = some_text len in
    judged_ok start len (with_feed ends len) _ _ (ap (is_long start) t.1) refl (more ends) inside (sym (is t.0 0 t.1))
  where
    more : (ends : Bool) → len ≤ with_feed ends len
    more true = omega arith
    more false = omega arith
judged start len ends (Some why) inside is =
    λ text same. ap (λ n. line_refusal (record { number = 0; start = start; text = text; is_past = nat_lt greatest_source (start + with_feed ends n) })) same ∙ sym (is text 0 same)
