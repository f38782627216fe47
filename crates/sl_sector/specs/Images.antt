-- Sectors that are kept with what they spell.
use Rattle.sha2.specs.Sha256.{sha256}
use Rattle.sl_sector.specs.Records.{IsRecord}
use Rattle.sl_sector.specs.SectorLayouts.{IsSectorSize, Spells, decoded, spelling}
use Rattle.sl_sector.specs.declared.sector.Bad.{Bad}
use Rattle.sl_sector.specs.declared.sector.Rec.{Rec}
use Rattle.sl_sector.specs.declared.image.Content.TheVariants.{Raw, Spelled}
use Rattle.sl_sector.specs.declared.image.Content.{Content}
use Rattle.sl_words.specs.Words.{choose}
use Rattle.std.specs.Option.{option_map}
use Rattle.std.specs.Prelude.{Err, IfOk, List, Ok, Option, Result, drop, length, nat_lt, take, [], ℕ, ◌*◌, ◌≡◌}

-- ---- one sector

-- Its bytes.
abbrev pub bytes_of : ℕ → Content → List ℕ
bytes_of size (Spelled r) = spelling sha256 size r
bytes_of size (Raw bytes found) = bytes

-- A record keeps its rules; bytes are a sector's, and what was found in them is what they spell.
abbrev pub IsContent : ℕ → Content → Type 0
IsContent size (Spelled r) = IsRecord r
IsContent size (Raw bytes found) = (length bytes ≡ size) × (found ≡ decoded sha256 bytes) × IfOk found (λ r. Spells sha256 bytes r)

-- A sector of this size.
pub record IsImage (size : ℕ) (c : Content) : Type 0 where
  pub sized : IsSectorSize size
  pub content : IsContent size c

-- What it spells.
abbrev pub found_of : Content → Result Rec Bad
found_of (Spelled r) = Ok r
found_of (Raw bytes found) = found

-- The bytes that it was made of, if it was made of bytes.
abbrev pub raw_of : Content → List ℕ
raw_of (Spelled r) = []
raw_of (Raw bytes found) = bytes

-- Two sectors of one size are the same where they spell the same record, or where neither spells any and the bytes are the same.
abbrev pub IsSameFound : Result Rec Bad → Result Rec Bad → List ℕ → List ℕ → Type 0
IsSameFound (Ok r) (Ok s) x y = r ≡ s
IsSameFound (Err a) (Err b) x y = x ≡ y
IsSameFound (Ok r) (Err b) x y = ⊥
IsSameFound (Err a) (Ok s) x y = ⊥

-- ---- sectors one after another

-- Their size, and their bytes.
pub record Run : Type 0 where
  pub size : ℕ
  pub bytes : List ℕ

-- The bytes of sector k.
abbrev pub sector_at : Run → ℕ → List ℕ
sector_at s k = take s.size (drop (k * s.size) s.bytes)

-- .. if there are so many.
abbrev pub sector_in : Run → ℕ → Option (List ℕ)
sector_in s k = choose (nat_lt (k * s.size) (length s.bytes)) (sector_at s k)

-- What sector k spells, if there are so many.
abbrev pub record_at : Run → ℕ → Option (Result Rec Bad)
record_at s k = option_map (decoded sha256) (sector_in s k)
