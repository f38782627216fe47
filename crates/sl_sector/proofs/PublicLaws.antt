-- The public laws, from those on reading and writing.
use Rattle.sl_sector.proofs.ByteLaws.{IsBytes, bytes_from_test}
use Rattle.sl_sector.proofs.SpellingLaws.{length-spelling, read_again, spelled}
use Rattle.sl_sector.proofs.WrittenBytes.{spelling_is_bytes}
use Rattle.sl_sector.specs.Laws.{EachIsSpelled, OneRecord, ReadingIsExact, SpelledIsRead}
use Rattle.sl_sector.specs.SectorLayouts.{IsDigest, IsSectorSize, IsTorn, Spells, decoded, spelling}
use Rattle.sl_sector.specs.declared.sector.Bad.{Bad}
use Rattle.sl_sector.specs.declared.sector.Rec.{Rec}
use Rattle.std.proofs.Common.{Err, List, Ok, Result, ap, length, sym, ℕ, ◌≡◌, ◌∙◌}
use Rattle.std.specs.Prelude.{IfOk, OnErr}

abbrev refused : Bad → Result Rec Bad
refused bad = Err bad

-- What the bytes spell is read from them.
pub spelled_again : (digest : List ℕ → List ℕ) → IsDigest digest → (bs : List ℕ) (r : Rec) → IsSectorSize (length bs) → Spells digest bs r → decoded digest bs ≡ Ok r
spelled_again digest d bs r fits s = ap (decoded digest) s.1 ∙ read_again digest d (length bs) r fits s.0

-- An answer that is what reading gives.
pub is_spelled : (digest : List ℕ → List ℕ) (bs : List ℕ) (read : Result Rec Bad) → IsBytes bs → IsSectorSize (length bs) → read ≡ decoded digest bs → IfOk read (λ r. Spells digest bs r)
is_spelled digest bs (Ok r) fits size is = spelled digest bs r fits size (sym is)
is_spelled digest bs (Err bad) fits size is = tt

-- A refusal is of bytes that spell nothing.
pub is_torn : (digest : List ℕ → List ℕ) → IsDigest digest → (bs : List ℕ) (read : Result Rec Bad) → IsSectorSize (length bs) → read ≡ decoded digest bs → OnErr read (IsTorn digest bs)
is_torn digest d bs (Ok r) size is = tt
is_torn digest d bs (Err bad) size is = λ r s. no_record bad r (is ∙ spelled_again digest d bs r size s)
  where
    no_record : (bad : Bad) (r : Rec) → refused bad ≡ Ok r → ⊥
    no_record bad r e = cc

-- One answer is one record.
same_record : (read : Result Rec Bad) (r s : Rec) → read ≡ Ok r → read ≡ Ok s → r ≡ s
same_record read r s a b = cc

-- Both are what reading gives.
pub one_record : OneRecord
one_record digest d bs fits r s a b = same_record (decoded digest bs) r s (spelled_again digest d bs r fits a) (spelled_again digest d bs s fits b)

-- The spelling itself.
pub each_is_spelled : EachIsSpelled
each_is_spelled digest d size fits r is =
    (spelling_is_bytes digest d size r fits is, (is, ap (λ (n : ℕ). spelling digest n r) (sym (length-spelling digest d size r fits is))))

-- Reading undoes writing.
pub spelled_is_read : SpelledIsRead
spelled_is_read digest d size fits r is = read_again digest d size r fits is

-- Both directions.
pub reading_is_exact : ReadingIsExact
reading_is_exact digest d n bs r fits bytes =
    let size : IsSectorSize (length bs) = rw bytes.0 fits in
    ((λ h. spelled digest bs r (bytes_from_test bs bytes.1) size h), (λ s. spelled_again digest d bs r size s))
