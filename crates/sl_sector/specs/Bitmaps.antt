-- Bitmaps of 2000 bits, one for each host, in 250 bytes.
use Rattle.std.specs.List.{enumerate_from, range_with_len}
use Rattle.std.specs.Prelude.{Bool, List, false, filter, flat_map, fold, if◌then◌else◌, map, replicate, slice_index, slice_set, true, [], ℕ, ◌%◌, ◌*◌, ◌+◌, ◌-◌, ◌/◌, ◌==◌, ◌^◌}

-- Bit k of a bitmap.
abbrev pub bit_value : ℕ → ℕ
bit_value k = 2 ^ ((k - 1) % 8)

-- Whether bit k is set, counted from 1.
abbrev pub is_bit_set : List ℕ → ℕ → Bool
is_bit_set bitmap k = (slice_index bitmap ((k - 1) / 8) / bit_value k) % 2 == 1

-- The bitmap with this bit too, and without it.
abbrev pub set_bit : List ℕ → ℕ → List ℕ
set_bit bitmap k =
    if is_bit_set bitmap k then bitmap else slice_set bitmap ((k - 1) / 8) (slice_index bitmap ((k - 1) / 8) + bit_value k)

-- The bitmap without bit k.
abbrev pub clear_bit : List ℕ → ℕ → List ℕ
clear_bit bitmap k =
    if is_bit_set bitmap k then slice_set bitmap ((k - 1) / 8) (slice_index bitmap ((k - 1) / 8) - bit_value k) else bitmap

-- The bitmap with no bit.
abbrev pub no_bits : List ℕ
no_bits = replicate 250 0

-- The bitmap with these bits and no other.
abbrev pub bitmap_of : List ℕ → List ℕ
bitmap_of ks = fold set_bit no_bits ks

-- The bits of byte i, in rising order.
abbrev pub bits_of_byte : ℕ → ℕ → List ℕ
bits_of_byte i b = elim (b == 0) [ true ↦ [] | false ↦ map (λ j. 8 * i + j + 1) (filter (λ j. (b / 2 ^ j) % 2 == 1) (range_with_len 0 8)) ]

-- The bits of a bitmap, in rising order.
abbrev pub bits_of : List ℕ → List ℕ
bits_of bitmap = flat_map (λ p. bits_of_byte p.0 p.1) (enumerate_from 0 bitmap)
