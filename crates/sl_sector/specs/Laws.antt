-- What holds of every spelling, whatever digest of 32 bytes ends it.
use Rattle.sl_sector.specs.Records.{AreBytes, IsRecord}
use Rattle.sl_sector.specs.SectorLayouts.{IsDigest, IsSectorSize, ReadsExactly, Spells, decoded, spelling}
use Rattle.sl_sector.specs.declared.sector.Rec.{Rec}
use Rattle.std.specs.Prelude.{List, Ok, length, ℕ, ◌≡◌}

-- Bytes spell at most one record.
abbrev pub OneRecord : Type 0
OneRecord =
    (digest : List ℕ → List ℕ) → IsDigest digest → (bs : List ℕ) → IsSectorSize (length bs) → (r s : Rec) → Spells digest bs r → Spells digest bs s → r ≡ s

-- A record that meets its rules has a spelling of each size, which is a list of so many bytes.
abbrev pub EachIsSpelled : Type 0
EachIsSpelled =
    (digest : List ℕ → List ℕ) → IsDigest digest → (size : ℕ) → IsSectorSize size → (r : Rec) → IsRecord r
    → AreBytes size (spelling digest size r) × Spells digest (spelling digest size r) r

-- What spells a record is read as that record.
abbrev pub SpelledIsRead : Type 0
SpelledIsRead =
    (digest : List ℕ → List ℕ) → IsDigest digest → (size : ℕ) → IsSectorSize size → (r : Rec) → IsRecord r → decoded digest (spelling digest size r) ≡ Ok r

-- Reading gives a record exactly where the bytes spell it.
abbrev pub ReadingIsExact : Type 0
ReadingIsExact = (digest : List ℕ → List ℕ) → IsDigest digest → ReadsExactly digest
