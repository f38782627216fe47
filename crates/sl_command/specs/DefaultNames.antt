-- The name of a host that was given none.
use Rattle.sl_text.specs.Numbers.{hex_text}
use Rattle.std.specs.Int.{to_be_bytes, w128}
use Rattle.std.specs.List.{join_with_byte}
use Rattle.std.specs.Prelude.{List, drop, take, [], ℕ, ◌∷◌}

-- Sixteen bytes in hex digits of lower case, with hyphens behind 4, 2, 2 and 2 of them.
abbrev pub hyphenated : List ℕ → List ℕ
hyphenated bs =
    join_with_byte 45 (hex_text (take 4 bs) ∷ hex_text (take 2 (drop 4 bs)) ∷ hex_text (take 2 (drop 6 bs)) ∷ hex_text (take 2 (drop 8 bs)) ∷ hex_text (drop 10 bs) ∷ [])

-- The bits of a UUID as its text, the highest byte first.
unfoldable pub default_name_text : ℕ → List ℕ
default_name_text bits = hyphenated (to_be_bytes w128 bits)
