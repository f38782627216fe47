-- A spelling is a list of bytes, and so is a SHA-256.
use Rattle.sha2.proofs.Facts256.{length-sha256}
use Rattle.sha2.specs.Sha256.{digest_bytes, sha256}
use Rattle.sl_sector.proofs.DeltaLaws.{HostFits, host_fits}
use Rattle.sl_sector.proofs.FieldLaws.{named}
use Rattle.sl_sector.proofs.SpellingLaws.{length-spelling}
use Rattle.sl_sector.specs.FieldBytes.{name_bytes, u32_bytes, u64_bytes}
use Rattle.sl_sector.specs.Records.{AreBytes, IsRecord}
use Rattle.sl_sector.specs.SectorLayouts.{IsDigest, IsSectorSize, checked_part, field_bytes, magic, spelling}
use Rattle.sl_sector.specs.declared.sector.Rec.TheVariants.{BlockIs, DeltaIs, LeaderIs, PairIs, PairLeaderIs, RequestIs, ValueIs}
use Rattle.sl_sector.specs.declared.sector.Rec.{Rec}
use Rattle.sl_text.specs.Names.{is_name, is_name_byte, padded_text}
use Rattle.sl_words.proofs.WordLaws.{and_true}
use Rattle.std.proofs.Common.{Bool, List, None, Option, Some, [], arith, eqb, false, length, ltb, refl, suc, true, zero, ℕ, ◌&&◌, ◌++◌, ◌-◌, ◌<◌, ◌≡◌, ◌∷◌}
use Rattle.std.proofs.Math.ListN.{replicate}
use Rattle.std.proofs.Math.Nat.{mod-lt}
use Rattle.std.proofs.lemmas.Bool.{lt-ltb}
use Rattle.std.proofs.lemmas.Bool.Decides.{nat_tests}
use Rattle.std.specs.Int.{byte_at, bytes_high_first, to_be_bytes, w32}
use Rattle.std.specs.List.{list_all}
use Rattle.std.specs.Prelude.{slice_index, unwrap_or}

-- Whether each element is a byte.
abbrev are_bytes : List ℕ → Bool
are_bytes bs = list_all (λ b. ltb b 256) bs

-- One after another.
are_bytes-append : (xs ys : List ℕ) → are_bytes (xs ++ ys) ≡ (are_bytes xs && are_bytes ys)
are_bytes-append [] ys = refl
are_bytes-append (x ∷ xs) ys = step (ltb x 256) (are_bytes xs) (are_bytes ys) (are_bytes (xs ++ ys)) (are_bytes-append xs ys)
  where
    step : (a b c d : Bool) → d ≡ (b && c) → (a && d) ≡ ((a && b) && c)
    step true b c d h = h
    step false b c d h = refl

-- A byte of a number.
byte_at_below : (k n : ℕ) → byte_at k n < 256
byte_at_below zero n = mod-lt n (omega arith)
byte_at_below (suc k) n = mod-lt _ (omega arith)

-- The bytes of a number.
are_bytes-high_first : (k n : ℕ) → are_bytes (bytes_high_first k n) ≡ true
are_bytes-high_first zero n = refl
are_bytes-high_first (suc k) n = rw (lt-ltb (byte_at k n) 256 (byte_at_below k n)) (are_bytes-high_first k n)

-- Zeros.
are_bytes-zeros : (n : ℕ) → are_bytes (replicate n 0) ≡ true
are_bytes-zeros zero = refl
are_bytes-zeros (suc n) = are_bytes-zeros n

-- A short number.
are_bytes-u32_bytes : (n : ℕ) → are_bytes (u32_bytes n) ≡ true
unfolding u32_bytes
are_bytes-u32_bytes n = are_bytes-high_first 4 n

-- A long number.
are_bytes-u64_bytes : (n : ℕ) → are_bytes (u64_bytes n) ≡ true
unfolding u64_bytes
are_bytes-u64_bytes n = are_bytes-high_first 8 n

-- The magic.
are_bytes-magic : are_bytes magic ≡ true
unfolding magic
are_bytes-magic = refl

-- A name's character.
name_byte_below : (b : ℕ) → is_name_byte b ≡ true → ltb b 256 ≡ true
name_byte_below b h = grind (arith, nat_tests)

-- A name's characters.
are_bytes-text : (name : List ℕ) → list_all is_name_byte name ≡ true → are_bytes name ≡ true
are_bytes-text [] h = refl
are_bytes-text (b ∷ bs) h =
    let p = and_true (is_name_byte b) (list_all is_name_byte bs) h in
    rw (name_byte_below b p.0) (are_bytes-text bs p.1)

-- A text and zeros.
are_bytes-padded_text : (size : ℕ) (text : List ℕ) → are_bytes text ≡ true → are_bytes (padded_text size text) ≡ true
unfolding padded_text
are_bytes-padded_text size text h = rw (are_bytes-append text (replicate (size - length text) 0), h) (are_bytes-zeros (size - length text))

-- A name and zeros.
are_bytes-name_bytes : (name : List ℕ) → is_name name ≡ true → are_bytes (name_bytes name) ≡ true
are_bytes-name_bytes name h = are_bytes-padded_text 48 name (are_bytes-text name (named name h).each)

-- The host's name, or none.
are_bytes-host : (unused : Bool) (host : Option (List ℕ)) → HostFits unused host → are_bytes (name_bytes (unwrap_or host [])) ≡ true
are_bytes-host unused None fits = are_bytes-padded_text 48 [] refl
are_bytes-host true (Some n) fits = absurd (let e = fits.absent refl in cc)
are_bytes-host false (Some n) fits = are_bytes-name_bytes n (fits.there refl)

-- A record's text.
are_bytes-field_bytes : (r : Rec) → IsRecord r → are_bytes (field_bytes r) ≡ true
unfolding field_bytes
are_bytes-field_bytes (DeltaIs d) is =
    simp (are_bytes-append, are_bytes-u32_bytes, are_bytes-u64_bytes, are_bytes-magic, are_bytes-name_bytes d.lockspace is.lockspace, are_bytes-host (eqb d.generation 0) d.host (host_fits d is), is.bitmap.1)
are_bytes-field_bytes (LeaderIs l) is =
    simp (are_bytes-append, are_bytes-u32_bytes, are_bytes-u64_bytes, are_bytes-magic, are_bytes-name_bytes l.lockspace is.lockspace, are_bytes-name_bytes l.resource is.resource)
are_bytes-field_bytes (BlockIs b) is = simp (are_bytes-append, are_bytes-u32_bytes, are_bytes-u64_bytes, are_bytes-magic)
are_bytes-field_bytes (RequestIs r) is = simp (are_bytes-append, are_bytes-u32_bytes, are_bytes-u64_bytes, are_bytes-magic)
are_bytes-field_bytes (ValueIs v) is = simp (are_bytes-append, are_bytes-u32_bytes, are_bytes-u64_bytes, are_bytes-magic, is.bytes.1)
are_bytes-field_bytes (PairIs p) is =
    simp (are_bytes-append, are_bytes-u32_bytes, are_bytes-u64_bytes, are_bytes-magic, are_bytes-name_bytes p.lockspace is.lockspace, are_bytes-name_bytes p.resource is.resource)
are_bytes-field_bytes (PairLeaderIs l) is =
    simp (are_bytes-append, are_bytes-u32_bytes, are_bytes-u64_bytes, are_bytes-magic, are_bytes-name_bytes l.lockspace is.lockspace, are_bytes-name_bytes l.resource is.resource)

-- A spelling is a sector's bytes.
pub spelling_is_bytes : (digest : List ℕ → List ℕ) → IsDigest digest → (size : ℕ) (r : Rec) → IsSectorSize size → IsRecord r → AreBytes size (spelling digest size r)
unfolding spelling checked_part
spelling_is_bytes digest d size r fits is =
    let front = are_bytes-padded_text (size - 32) (field_bytes r) (are_bytes-field_bytes r is) in
    let text = padded_text (size - 32) (field_bytes r) in
    (length-spelling digest d size r fits is, rw (are_bytes-append text (digest text), front) (d.bytes text))

-- ---- SHA-256

-- The words of a hash value.
are_bytes-digest_bytes : (h : List ℕ) (n : ℕ) → are_bytes (digest_bytes h n) ≡ true
unfolding digest_bytes
are_bytes-digest_bytes h zero = refl
are_bytes-digest_bytes h (suc n) =
    rw (are_bytes-append (digest_bytes h n) (to_be_bytes w32 (slice_index h n)), are_bytes-digest_bytes h n) (are_bytes-high_first 4 (slice_index h n))

-- It has 32 bytes, of every text.
pub sha256_is_digest : IsDigest sha256
unfolding sha256
sha256_is_digest = record { long = length-sha256; bytes = (λ text. are_bytes-digest_bytes _ 8) }
