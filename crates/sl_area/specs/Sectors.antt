-- Sectors of a disk, and what a disk has in them.
use Rattle.std.specs.Prelude.{List, None, Option, Some, drop, length, take, ⊤, ℕ, ◌%◌, ◌++◌, ◌+◌, ◌<◌, ◌^◌, ◌≡◌, ◌≤◌, ◌⊎◌}

-- Where a sector begins, and how many bytes it has.
pub record SectorPlace : Type 0 where
  pub offset : ℕ
  pub size : ℕ

-- Sectors stand one after another from the disk's start.
pub record IsSector (p : SectorPlace) : Type 0 where
  pub sized : (0 < p.size) × (p.size < 2 ^ 32)
  pub whole : p.offset % p.size ≡ 0
  pub below : p.offset < 2 ^ 63

-- One ends before the other begins.
abbrev pub Apart : SectorPlace → SectorPlace → Type 0
Apart p q = (p.offset + p.size ≤ q.offset) ⊎ (q.offset + q.size ≤ p.offset)

-- These are the bytes from an offset on, where the content is told.
abbrev pub IsReadAt : Option (List ℕ) → ℕ → List ℕ → Type 0
IsReadAt None at bytes = ⊤
IsReadAt (Some content) at bytes = (at + length bytes ≤ length content) × (bytes ≡ take (length bytes) (drop at content))

-- The content with these bytes from an offset on.
abbrev pub put_at : ℕ → List ℕ → List ℕ → List ℕ
put_at at bytes content = take at content ++ bytes ++ drop (at + length bytes) content

-- The bytes from an offset on are replaced by these, and no other is, where the content is told.
abbrev pub Replaces : Option (List ℕ) → Option (List ℕ) → ℕ → List ℕ → Type 0
Replaces None new at bytes = ⊤
Replaces (Some before) None at bytes = ⊥
Replaces (Some before) (Some after) at bytes = (at + length bytes ≤ length before) × (after ≡ put_at at bytes before)

-- All but the bytes of the sector are as they were, where the content is told.
abbrev pub KeepsOthers : Option (List ℕ) → Option (List ℕ) → SectorPlace → Type 0
KeepsOthers None new p = ⊤
KeepsOthers (Some before) None p = ⊥
KeepsOthers (Some before) (Some after) p =
    (length after ≡ length before) × (take p.offset after ≡ take p.offset before)
    × (drop (p.offset + p.size) after ≡ drop (p.offset + p.size) before)
