-- Numbers in texts.
use Rattle.std.specs.Char.{digit_char, digit_value, is_ascii_digit}
use Rattle.std.specs.Int.{is_in_range}
use Rattle.std.specs.List.{list_all}
use Rattle.std.specs.Prelude.{Bool, List, false, flat_map, length, min, not, slice_index, [], ℕ, ◌%◌, ◌&&◌, ◌*◌, ◌+◌, ◌-◌, ◌/◌, ◌<◌, ◌==◌, ◌^◌, ◌||◌, ◌∷◌}
use Rattle.std.specs.Str.Parse.{digits_value}

-- Decimal digits without a leading zero.
abbrev pub is_number_text : List ℕ → Bool
is_number_text [] = false
is_number_text (c ∷ cs) = list_all is_ascii_digit (c ∷ cs) && (not (c == 48) || length cs == 0)

-- The number that the digits write.
abbrev pub number_of : List ℕ → ℕ
number_of w = digits_value 10 w

-- A number that passes a test.
abbrev pub is_number_that : (ℕ → Bool) → List ℕ → Bool
is_number_that p w = is_number_text w && p (number_of w)

-- The number, or this bound where it is above: for numbers that no rule bounds, whose type ends.
abbrev pub capped : ℕ → List ℕ → ℕ
capped top w = min (number_of w) top

-- What a type of 64 bits holds of it.
abbrev pub capped_long : List ℕ → ℕ
capped_long w = capped (2 ^ 64 - 1) w

-- What a type of 32 bits holds of it.
abbrev pub capped_short : List ℕ → ℕ
capped_short w = capped (2 ^ 32 - 1) w

-- Two digits for each byte, in lower case.
abbrev pub hex_text : List ℕ → List ℕ
hex_text bs = flat_map (λ b. digit_char (b / 16) ∷ digit_char (b % 16) ∷ []) bs

-- '0' to '9' and 'a' to 'f'.
abbrev pub is_hex_digit : ℕ → Bool
is_hex_digit b = is_ascii_digit b || is_in_range 97 102 b

-- An even number of such digits, within these bounds.
abbrev pub is_hex_word : ℕ → ℕ → List ℕ → Bool
is_hex_word low high w = is_in_range low high (length w) && length w % 2 == 0 && list_all is_hex_digit w

-- The bytes that hex digits write.
abbrev pub hex_bytes : List ℕ → List ℕ
hex_bytes [] = []
hex_bytes (a ∷ []) = []
hex_bytes (a ∷ b ∷ cs) = (16 * digit_value a + digit_value b) ∷ hex_bytes cs

-- Each element is a byte.
abbrev pub IsBytes : List ℕ → Type 0
IsBytes bs = (i : ℕ) → slice_index bs i < 256
