-- The names of generated daemons and resources are names: letters, digits and a bar, and few of them.
use Rattle.sl_report.specs.GeneratedSchedules.{gen_host_name}
use Rattle.sl_text.proofs.NumberLaws.{is_number_text-decimal}
use Rattle.sl_text.specs.Names.{is_name, is_name_byte}
use Rattle.sl_text.specs.Numbers.{is_number_text}
use Rattle.sl_words.proofs.WordLaws.{and_true}
use Rattle.sl_words.specs.Words.{choose}
use Rattle.std.proofs.Common.{Bool, List, None, Option, [], arith, false, length, refl, sym, tests, true, ℕ, ◌++◌, ◌<◌, ◌^◌, ◌≤◌, ◌∙◌, ◌∷◌, ◌≡◌}
use Rattle.std.proofs.lemmas.Bool.Decides.{nat_tests}
use Rattle.std.proofs.lemmas.Bool.{and_from}
use Rattle.std.proofs.lemmas.Fmt.{length-decimal-le}
use Rattle.std.proofs.lemmas.List.{length-append}
use Rattle.std.specs.Char.{is_ascii_digit}
use Rattle.std.specs.Int.{is_in_range}
use Rattle.std.specs.List.{list_all}
use Rattle.std.specs.Prelude.{codes, decimal}

-- ---- bytes

digit_is_byte : (c : ℕ) → is_ascii_digit c ≡ true → is_name_byte c ≡ true
digit_is_byte c h = grind (arith, tests, nat_tests)

digits_are_bytes : (xs : List ℕ) → list_all is_ascii_digit xs ≡ true → list_all is_name_byte xs ≡ true
digits_are_bytes [] h = refl
digits_are_bytes (x ∷ xs) h =
    let both = and_true (is_ascii_digit x) (list_all is_ascii_digit xs) h in
    and_from (is_name_byte x) (list_all is_name_byte xs) (digit_is_byte x both.0) (digits_are_bytes xs both.1)

number_digits : (w : List ℕ) → is_number_text w ≡ true → list_all is_ascii_digit w ≡ true
number_digits [] h = refl
number_digits (c ∷ cs) h = (and_true (list_all is_ascii_digit (c ∷ cs)) _ h).0

decimal_bytes : (n : ℕ) → n < 2 ^ 64 → list_all is_name_byte (decimal n) ≡ true
decimal_bytes n h = digits_are_bytes (decimal n) (number_digits (decimal n) (is_number_text-decimal n h))

bytes_behind : (xs ys : List ℕ) → list_all is_name_byte xs ≡ true → list_all is_name_byte ys ≡ true → list_all is_name_byte (xs ++ ys) ≡ true
bytes_behind [] ys h k = k
bytes_behind (x ∷ xs) ys h k =
    let both = and_true (is_name_byte x) (list_all is_name_byte xs) h in
    and_from (is_name_byte x) (list_all is_name_byte (xs ++ ys)) both.0 (bytes_behind xs ys both.1 k)

-- ---- names

few : (n : ℕ) → 1 ≤ n → n ≤ 48 → is_in_range 1 48 n ≡ true
few n low high = grind (arith, tests, nat_tests)

name_of : (xs : List ℕ) → 1 ≤ length xs → length xs ≤ 48 → list_all is_name_byte xs ≡ true → is_name xs ≡ true
name_of xs low high all = and_from (is_in_range 1 48 (length xs)) (list_all is_name_byte xs) (few (length xs) low high) all

-- A letter and a number of two digits at most.
pub lettered : (c n : ℕ) → is_name_byte c ≡ true → n < 100 → is_name ((c ∷ []) ++ decimal n) ≡ true
lettered c n letter small =
    let short = length-decimal-le 2 n (omega arith) (omega (arith, small)) (omega (arith, small)) in
    let long = length-append (c ∷ []) (decimal n) in
    name_of ((c ∷ []) ++ decimal n) (omega arith) (omega (arith, short))
    (and_from (is_name_byte c) (list_all is_name_byte (decimal n)) letter (decimal_bytes n (omega (arith, small))))

-- The name of a daemon that begins at an event.
pub daemon_named : (m n : ℕ) → m ≤ 16 → n < 2 ^ 64 → is_name (gen_host_name m ++ codes "_" ++ decimal n) ≡ true
daemon_named m n few_machines small =
    let first = length-decimal-le 2 m (omega arith) (omega (arith, few_machines)) (omega (arith, few_machines)) in
    let second = length-decimal-le 20 n (omega arith) (omega (arith, small)) small in
    let one = length-append (gen_host_name m) (codes "_") in
    let two = length-append (gen_host_name m ++ codes "_") (decimal n) in
    name_of (gen_host_name m ++ codes "_" ++ decimal n) (omega (arith, one, two)) (omega (arith, first, second, one, two))
    (bytes_behind (gen_host_name m ++ codes "_") (decimal n)
    (bytes_behind (gen_host_name m) (codes "_") (and_from true (list_all is_name_byte (decimal m)) refl (decimal_bytes m (omega (arith, few_machines)))) refl)
    (decimal_bytes n small))

-- What is a name is told as one.
pub unnamed : (w : List ℕ) (o : Option (List ℕ)) → is_name w ≡ true → o ≡ choose (is_name w) w → o ≡ None → ⊥
unnamed w o named is none = absurd (no (is_name w) named (sym is ∙ none))
  where
    no : (b : Bool) → b ≡ true → choose b w ≡ None → ⊥
    no true h k = absurd cc
    no false h k = absurd cc
