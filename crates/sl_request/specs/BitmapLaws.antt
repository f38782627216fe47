-- What the bits of a bitmap keep when one of them changes.
use Rattle.sl_sector.specs.Bitmaps.{bitmap_of, bits_of, clear_bit, is_bit_set, no_bits, set_bit}
use Rattle.sl_sector.specs.Records.{AreBytes}
use Rattle.sl_words.specs.Bounds.{most_hosts}
use Rattle.std.specs.Int.{is_in_range}
use Rattle.std.specs.List.{list_all, list_any, range_with_len}
use Rattle.std.specs.Prelude.{Bool, IsTrue, List, false, filter, length, true, ℕ, ◌==◌, ◌≡◌, ◌≢◌, ◌≤◌}

-- A host, by its number.
abbrev pub IsHost : ℕ → Type 0
IsHost k = (1 ≤ k) × (k ≤ most_hosts)

-- Bit k becomes this, and every other bit stays.
pub record ChangesBit (k : ℕ) (bit : Bool) (old new : List ℕ) : Type 0 where
  -- else the holder is not told, or told again
  pub changed : is_bit_set new k ≡ bit
  -- else another host looks, or looks no more
  pub others : (j : ℕ) → 1 ≤ j → j ≢ k → is_bit_set new j ≡ is_bit_set old j
  -- else it is no bitmap of a record
  pub bytes : AreBytes 250 new

-- Setting a host's bit changes it alone.
abbrev pub SetChangesOne : Type 0
SetChangesOne = (b : List ℕ) (k : ℕ) → AreBytes 250 b → IsHost k → ChangesBit k true b (set_bit b k)

-- Clearing a host's bit changes it alone.
abbrev pub ClearChangesOne : Type 0
ClearChangesOne = (b : List ℕ) (k : ℕ) → AreBytes 250 b → IsHost k → ChangesBit k false b (clear_bit b k)

-- Without bits no host's bit is set.
abbrev pub NoneIsSet : Type 0
NoneIsSet = AreBytes 250 no_bits × ((k : ℕ) → is_bit_set no_bits k ≡ false)

-- The bits of a list of hosts are those hosts' and no others.
abbrev pub ListedAreSet : Type 0
ListedAreSet =
    (ks : List ℕ) → IsTrue (list_all (is_in_range 1 most_hosts) ks)
    → AreBytes 250 (bitmap_of ks) × ((j : ℕ) → 1 ≤ j → is_bit_set (bitmap_of ks) j ≡ list_any (λ k. k == j) ks)

-- Two bitmaps with the same hosts' bits are the same bytes.
abbrev pub BitsAreAll : Type 0
BitsAreAll =
    (a b : List ℕ) → AreBytes 250 a → AreBytes 250 b → ((k : ℕ) → IsHost k → is_bit_set a k ≡ is_bit_set b k) → a ≡ b

-- The bits of a bitmap, as they are printed, are those of all hosts in rising order whose bit is set.
abbrev pub BitsInOrder : Type 0
BitsInOrder = (b : List ℕ) → length b ≡ 250 → bits_of b ≡ filter (is_bit_set b) (range_with_len 1 most_hosts)
