-- The request: what is read of it is spelled so, and what is spelled so is read.
use Rattle.sl_sector.proofs.ByteLaws.{IsBytes}
use Rattle.sl_sector.proofs.FieldLaws.{Begins, length-magic, length-u32_bytes, length-u64_bytes, take-u32, take-u64, u32_before, u64_before}
use Rattle.sl_sector.proofs.RuleLaws.{Hold, both_zero, both_zero_test, fits_32, fits_64, number, under_held_rules}
use Rattle.sl_sector.specs.FieldBytes.{u32_at, u64_at}
use Rattle.sl_sector.specs.Records.{IsRequest}
use Rattle.sl_sector.specs.SectorLayouts.{as_record, field_bytes, fields_of, magic, request_of, request_rules, under_rules}
use Rattle.sl_sector.specs.declared.sector.Rec.TheVariants.{RequestIs}
use Rattle.sl_sector.specs.declared.sector.Request.{Request}
use Rattle.sl_words.proofs.WordLaws.{and_true}
use Rattle.sl_words.specs.Bounds.{record_numbers}
use Rattle.std.proofs.Common.{List, Ok, ap, arith, length, length-append, refl, take, ℕ, ◌<◌, ◌^◌, ◌≡◌, ◌≤◌, ◌∙◌}
use Rattle.std.proofs.lemmas.Bool.{and_from, le-leb, leb-true, lt-ltb}

-- The rules of the fields are those of the record.
pub request_fits : (bs : List ℕ) → Hold (request_rules bs) → IsRequest (request_of bs)
unfolding request_rules
request_fits bs (force, (host, (lver, _))) =
    let parts = and_true _ _ lver in
    record {
      force = leb-true (u32_at bs 8) 2 force;
      host = leb-true (u32_at bs 12) 2000 host;
      lver = number (u64_at bs 16) parts.0;
      same = both_zero (u32_at bs 8) (u64_at bs 16) parts.1;
    }

-- What the fields give is spelled by the bytes.
pub request_text : (bs : List ℕ) → IsBytes bs → 512 ≤ length bs → take 4 bs ≡ magic → u32_at bs 4 ≡ 4
    → take 24 bs ≡ field_bytes (RequestIs (request_of bs))
unfolding field_bytes
request_text bs fits long begins kind =
    rw (
      take-u64 bs 16 fits (omega arith),
      take-u32 bs 12 fits (omega arith),
      take-u32 bs 8 fits (omega arith),
      take-u32 bs 4 fits (omega arith),
      begins,
      kind,
    ) refl

-- How long the text is.
pub length-request : (r : Request) → length (field_bytes (RequestIs r)) ≡ 24
unfolding field_bytes
length-request r = simp (length-append, length-u32_bytes, length-u64_bytes, length-magic)

-- Number 4 is the request.
of_kind : (bs : List ℕ) → fields_of 4 bs ≡ as_record RequestIs (under_rules (request_rules bs) (request_of bs))
unfolding fields_of
of_kind bs = refl

-- A request's bytes are read as that request.
pub request_again : (bs : List ℕ) (r : Request) → IsRequest r → Begins bs (field_bytes (RequestIs r)) 24
    → (take 4 bs ≡ magic) × (fields_of (u32_at bs 4) bs ≡ Ok (RequestIs r))
unfolding request_rules field_bytes
request_again bs r is begins =
    let kind_fits : 4 < 2 ^ 32 = omega arith in
    let force_below : r.force ≤ 2000 = omega (arith, is.force) in
    let lver = u64_before bs _ 16 r.lver (fits_64 _ is.lver) begins in
    let host = u32_before bs _ 12 r.host (fits_32 _ is.host) lver.0 in
    let force = u32_before bs _ 8 r.force (fits_32 _ force_below) host.0 in
    let kind = u32_before bs _ 4 4 kind_fits force.0 in
    let holds : Hold (request_rules bs) = (
      rw force.1 (le-leb r.force 2 is.force),
      (
        rw host.1 (le-leb r.host 2000 is.host),
        (rw (lver.1, force.1) (and_from _ _ (lt-ltb r.lver record_numbers is.lver) (both_zero_test r.force r.lver is.same)), tt),
      ),
    ) in
    let read : request_of bs ≡ r = rw (force.1, host.1, lver.1) refl in
    (kind.0.front, ap (λ (k : ℕ). fields_of k bs) kind.1 ∙ of_kind bs ∙ ap (as_record RequestIs) (under_held_rules (request_rules bs) (request_of bs) holds ∙ ap (λ (x : Request). Ok x) read))
