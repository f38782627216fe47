-- Names, paths, numbers and hex words hold no separator, so that words and parts that are made of them are cut where they
-- were joined.
use Rattle.sl_text.proofs.NumberLaws.{is_number_text-decimal}
use Rattle.sl_text.proofs.PieceLaws.{free_of_failing}
use Rattle.sl_text.specs.Forms.{is_free_of}
use Rattle.sl_text.specs.Names.{is_name, is_name_byte, is_path}
use Rattle.sl_text.specs.Numbers.{is_hex_digit, is_hex_word, is_number_text}
use Rattle.sl_words.proofs.WordLaws.{and_true}
use Rattle.std.proofs.Common.{List, [], eqb, false, length, leb, true, ℕ, ◌&&◌, ◌<◌, ◌^◌, ◌||◌, ◌≡◌, ◌∷◌}
use Rattle.std.proofs.lemmas.Bool.{and_from, or_right}
use Rattle.std.specs.Char.{is_ascii_digit}
use Rattle.std.specs.List.{list_all}
use Rattle.std.specs.Prelude.{decimal}

-- A name holds no byte that no name may have.
pub name_free : (c : ℕ) (n : List ℕ) → is_name_byte c ≡ false → is_name n ≡ true → is_free_of c n ≡ true
name_free c n fails h = free_of_failing is_name_byte c n fails (and_true _ _ h).1

-- A path holds no byte that no path may have.
path_bytes : (p : List ℕ) → is_path p ≡ true → list_all (λ b. is_name_byte b || eqb b 47) p ≡ true
path_bytes [] h = absurd cc
path_bytes (c ∷ cs) h =
    let parts = and_true (eqb c 47 && leb (length cs) 63) (list_all (λ b. is_name_byte b || eqb b 47) cs) h in
    let first = and_true (eqb c 47) (leb (length cs) 63) parts.0 in
    and_from _ _ (or_right (is_name_byte c) (eqb c 47) first.0) parts.1

pub path_free : (c : ℕ) (p : List ℕ) → (is_name_byte c || eqb c 47) ≡ false → is_path p ≡ true → is_free_of c p ≡ true
path_free c p fails h = free_of_failing (λ b. is_name_byte b || eqb b 47) c p fails (path_bytes p h)

-- A number's text holds digits alone.
pub number_free : (c : ℕ) (w : List ℕ) → is_ascii_digit c ≡ false → is_number_text w ≡ true → is_free_of c w ≡ true
number_free c [] fails h = absurd cc
number_free c (d ∷ ds) fails h = free_of_failing is_ascii_digit c (d ∷ ds) fails (and_true _ _ h).0

pub decimal_free : (c n : ℕ) → is_ascii_digit c ≡ false → n < 2 ^ 64 → is_free_of c (decimal n) ≡ true
decimal_free c n fails h = number_free c (decimal n) fails (is_number_text-decimal n h)

-- A hex word holds hex digits alone.
pub hex_free : (low high c : ℕ) (w : List ℕ) → is_hex_digit c ≡ false → is_hex_word low high w ≡ true → is_free_of c w ≡ true
hex_free low high c w fails h = free_of_failing is_hex_digit c w fails (and_true _ _ h).1
