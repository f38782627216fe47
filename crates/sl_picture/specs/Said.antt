-- The words of a line of a schedule or of a report.
use Rattle.sl_text.specs.Forms.{pieces, words_of}
use Rattle.sl_text.specs.Numbers.{capped_long, is_number_text}
use Rattle.sl_words.specs.Words.{first_of_list}
use Rattle.std.specs.List.{join_with_byte}
use Rattle.std.specs.Option.{option_map_or}
use Rattle.std.specs.Prelude.{List, codes, drop, if◌then◌else◌, [], ℕ, ◌++◌}

abbrev pub words_behind : List ℕ → ℕ → List (List ℕ)
words_behind line count = drop count (words_of line)

abbrev pub first_word : List (List ℕ) → List ℕ
first_word words = option_map_or (λ w. w) (first_of_list words) []

abbrev pub word_at : List ℕ → ℕ → List ℕ
word_at line place = first_word (words_behind line place)

abbrev pub text_behind : List ℕ → ℕ → List ℕ
text_behind line count = join_with_byte 32 (words_behind line count)

abbrev pub number_in : List ℕ → ℕ
number_in word = if is_number_text word then capped_long word else 0

abbrev pub number_at : List ℕ → ℕ → ℕ
number_at line place = number_in (word_at line place)

-- The parts of a word, which colons keep apart.
abbrev pub behind_colon : List ℕ → List ℕ
behind_colon word = join_with_byte 58 (drop 1 (pieces 58 word))

abbrev pub first_part : List ℕ → List ℕ
first_part word = first_word (pieces 58 word)

abbrev pub two_parts : List ℕ → List ℕ
two_parts word = first_part word ++ codes ":" ++ first_part (behind_colon word)
