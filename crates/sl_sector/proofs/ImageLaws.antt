-- What a kept sector's bytes are, and what they spell.
use Rattle.sha2.specs.Sha256.{sha256}
use Rattle.sl_sector.proofs.PublicLaws.{spelled_is_read}
use Rattle.sl_sector.proofs.SpellingLaws.{length-spelling}
use Rattle.sl_sector.proofs.WrittenBytes.{sha256_is_digest, spelling_is_bytes}
use Rattle.sl_sector.specs.SectorLayouts.{Spells, decoded, spelling}
use Rattle.sl_sector.specs.declared.sector.Bad.{Bad}
use Rattle.sl_sector.specs.declared.sector.Rec.{Rec}
use Rattle.sl_sector.specs.Images.{IsImage, IsSameFound, bytes_of, found_of, raw_of}
use Rattle.sl_sector.specs.declared.image.Content.TheVariants.{Raw, Spelled}
use Rattle.sl_sector.specs.declared.image.Content.{Content}
use Rattle.std.proofs.Common.{ap, refl, subst, sym, ◌∙◌}
use Rattle.std.proofs.lemmas.Slice.Eq.{bytes_eq-Decides}
use Rattle.std.specs.Bool.{Decides}
use Rattle.std.specs.List.{list_all}
use Rattle.std.specs.Prelude.{Bool, Err, IfOk, IsTrue, Ok, Result, bytes_eq, false, length, nat_lt, true, ℕ, ◌↔◌, ◌≡◌}

abbrev as_found : Rec → Result Rec Bad
as_found r = Ok r

abbrev as_refused : Bad → Result Rec Bad
as_refused bad = Err bad

pub is_found : (size : ℕ) (c : Content) → IsImage size c → found_of c ≡ decoded sha256 (bytes_of size c)
is_found size (Spelled r) is = sym (spelled_is_read sha256 sha256_is_digest size is.sized r is.content)
is_found size (Raw bytes found) is = is.content.1

-- A record that is found in a sector is the one that it spells.
pub is_spelled : (size : ℕ) (c : Content) → IsImage size c → IfOk (found_of c) (λ r. Spells sha256 (bytes_of size c) r)
is_spelled size (Spelled r) is = (is.content, ap (λ n. spelling sha256 n r) (sym (length-spelling sha256 sha256_is_digest size r is.sized is.content)))
is_spelled size (Raw bytes found) is = is.content.2

pub is_long : (size : ℕ) (c : Content) → IsImage size c → length (bytes_of size c) ≡ size
is_long size (Spelled r) is = length-spelling sha256 sha256_is_digest size r is.sized is.content
is_long size (Raw bytes found) is = is.content.0

-- The sector of a record is bytes.
pub are_spelled_bytes : (size : ℕ) (r : Rec) → IsImage size (Spelled r) → IsTrue (list_all (λ b. nat_lt b 256) (spelling sha256 size r))
are_spelled_bytes size r is = (spelling_is_bytes sha256 sha256_is_digest size r is.sized is.content).1

-- ---- the same bytes

-- A sector in which a record is found is that record's.
spelled_by : (n : ℕ) (c : Content) (r : Rec) → IsImage n c → found_of c ≡ Ok r → bytes_of n c ≡ spelling sha256 n r
spelled_by n (Spelled k) r is found = ap (λ x. spelling sha256 n x) (one k r found)
  where
    one : (k r : Rec) → as_found k ≡ as_found r → k ≡ r
    one k r h = cc
spelled_by n (Raw bytes found) r is at =
    let spells : Spells sha256 bytes r = subst (λ x. IfOk x (λ k. Spells sha256 bytes k)) at is.content.2 in
    spells.1 ∙ ap (λ k. spelling sha256 k r) is.content.0

-- One in which none is found was made of its bytes.
raw_by : (n : ℕ) (c : Content) (bad : Bad) → found_of c ≡ as_refused bad → raw_of c ≡ bytes_of n c
raw_by n (Spelled r) bad found = absurd (apart r bad found)
  where
    apart : (r : Rec) (bad : Bad) → as_found r ≡ as_refused bad → ⊥
    apart r bad h = cc
raw_by n (Raw bytes found) bad at = refl

from_found : (n m : ℕ) (c d : Content) → IsImage n c → IsImage m d → n ≡ m → (p q : Result Rec Bad) → found_of c ≡ p → found_of d ≡ q
    → IsSameFound p q (raw_of c) (raw_of d) → bytes_of n c ≡ bytes_of m d
from_found n m c d is it size (Ok r) (Ok s) a b same =
    spelled_by n c r is a ∙ ap (λ k. spelling sha256 k r) size ∙ ap (λ x. spelling sha256 m x) same ∙ sym (spelled_by m d s it b)
from_found n m c d is it size (Err e) (Err f) a b same = sym (raw_by n c e a) ∙ same ∙ raw_by m d f b
from_found n m c d is it size (Ok r) (Err f) a b same = absurd same
from_found n m c d is it size (Err e) (Ok s) a b same = absurd same

to_found : (n m : ℕ) (c d : Content) → bytes_of n c ≡ bytes_of m d → (p q : Result Rec Bad) → found_of c ≡ p → found_of d ≡ q → p ≡ q
    → IsSameFound p q (raw_of c) (raw_of d)
to_found n m c d bytes (Ok r) (Ok s) a b same = one r s same
  where
    one : (k r : Rec) → as_found k ≡ as_found r → k ≡ r
    one k r h = cc
to_found n m c d bytes (Err e) (Err f) a b same = raw_by n c e a ∙ bytes ∙ sym (raw_by m d f b)
to_found n m c d bytes (Ok r) (Err f) a b same = apart r f same
  where
    apart : (r : Rec) (bad : Bad) → as_found r ≡ as_refused bad → ⊥
    apart r bad h = cc
to_found n m c d bytes (Err e) (Ok s) a b same = apart s e same
  where
    apart : (r : Rec) (bad : Bad) → as_refused bad ≡ as_found r → ⊥
    apart r bad h = cc

-- Two tests of one fact are one.
one_test : {P : Type 0} (p q : Bool) → Decides p P → Decides q P → p ≡ q
one_test true q d k = sym (k.1 (d.0 refl))
one_test false true d k = d.1 (k.0 refl)
one_test false false d k = refl

pub is_same : (n m : ℕ) (c d : Content) (same : Bool) → IsImage n c → IsImage m d
    → IsTrue same ↔ ((n ≡ m) × IsSameFound (found_of c) (found_of d) (raw_of c) (raw_of d)) → same ≡ bytes_eq (bytes_of n c) (bytes_of m d)
is_same n m c d same is it told = one_test _ _ tells (bytes_eq-Decides (bytes_of n c) (bytes_of m d))
  where
    tells : Decides same (bytes_of n c ≡ bytes_of m d)
    tells = (
      λ h. let both = told.0 h in from_found n m c d is it both.0 (found_of c) (found_of d) refl refl both.1,
      λ h. told.1 (
        sym (is_long n c is) ∙ ap (λ bytes. length bytes) h ∙ is_long m d it,
        to_found n m c d h (found_of c) (found_of d) refl refl (is_found n c is ∙ ap (decoded sha256) h ∙ sym (is_found m d it)),
      ),
    )
