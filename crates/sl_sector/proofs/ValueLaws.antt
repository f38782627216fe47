-- The value: what is read of it is spelled so, and what is spelled so is read.
use Rattle.sl_sector.proofs.ByteLaws.{IsBytes, IsBytes-drop, IsBytes-take, test_from_bytes}
use Rattle.sl_sector.proofs.FieldLaws.{Begins, Begins-before, length-magic, length-u32_bytes, length-u64_bytes, length_part, take-u32, take-u64, u32_before, u64_before}
use Rattle.sl_sector.proofs.RuleLaws.{Hold, fits_32, fits_64, number, under_held_rules}
use Rattle.sl_sector.specs.FieldBytes.{u32_at, u64_at}
use Rattle.sl_sector.specs.Records.{IsValue}
use Rattle.sl_sector.specs.SectorLayouts.{as_record, field_bytes, fields_of, magic, under_rules, value_of, value_rules}
use Rattle.sl_sector.specs.declared.sector.Rec.TheVariants.{ValueIs}
use Rattle.sl_sector.specs.declared.sector.ValueRec.{ValueRec}
use Rattle.sl_words.specs.Bounds.{record_numbers}
use Rattle.std.proofs.Common.{List, Ok, ap, arith, drop, length, length-append, refl, take, ℕ, ◌+◌, ◌<◌, ◌^◌, ◌≡◌, ◌≤◌, ◌∙◌}
use Rattle.std.proofs.Math.Seq.{take-add}
use Rattle.std.proofs.lemmas.Bool.{le-leb, leb-true, lt-ltb}

-- The bytes of the value are as many as its length says.
pub length-value_bytes : (bs : List ℕ) → 512 ≤ length bs → Hold (value_rules bs) → length (take (u32_at bs 8) (drop 32 bs)) ≡ u32_at bs 8
unfolding value_rules
length-value_bytes bs long (len, _) =
    let most : u32_at bs 8 ≤ 256 = leb-true _ _ len in
    length_part bs 32 (u32_at bs 8) (omega arith)

-- The rules of the fields are those of the record.
pub value_fits : (bs : List ℕ) → IsBytes bs → 512 ≤ length bs → Hold (value_rules bs) → IsValue (value_of bs)
unfolding value_rules
value_fits bs fits long holds =
    let most : u32_at bs 8 ≤ 256 = leb-true _ _ holds.0 in
    record {
      host = leb-true (u32_at bs 12) 2000 holds.1.0;
      lver = number (u64_at bs 16) holds.1.1.0;
      seq = number (u64_at bs 24) holds.1.1.1.0;
      bytes = (rw (length-value_bytes bs long holds) most, test_from_bytes _ (IsBytes-take (u32_at bs 8) (drop 32 bs) (IsBytes-drop 32 bs fits)));
    }

-- What the fields give is spelled by the bytes.
pub value_text : (bs : List ℕ) → IsBytes bs → 512 ≤ length bs → take 4 bs ≡ magic → u32_at bs 4 ≡ 5 → Hold (value_rules bs)
    → take (32 + u32_at bs 8) bs ≡ field_bytes (ValueIs (value_of bs))
unfolding field_bytes
value_text bs fits long begins kind holds =
    rw (
      take-add 32 (u32_at bs 8) bs,
      take-u64 bs 24 fits (omega arith),
      take-u64 bs 16 fits (omega arith),
      take-u32 bs 12 fits (omega arith),
      take-u32 bs 8 fits (omega arith),
      take-u32 bs 4 fits (omega arith),
      begins,
      kind,
      length-value_bytes bs long holds,
    ) refl

-- How long the text is.
pub length-value : (v : ValueRec) → length (field_bytes (ValueIs v)) ≡ 32 + length v.bytes
unfolding field_bytes
length-value v = simp (length-append, length-u32_bytes, length-u64_bytes, length-magic)

-- Number 5 is the value.
of_kind : (bs : List ℕ) → fields_of 5 bs ≡ as_record ValueIs (under_rules (value_rules bs) (value_of bs))
unfolding fields_of
of_kind bs = refl

-- A value's bytes are read as that value.
pub value_again : (bs : List ℕ) (v : ValueRec) → IsValue v → Begins bs (field_bytes (ValueIs v)) (32 + length v.bytes)
    → (take 4 bs ≡ magic) × (fields_of (u32_at bs 4) bs ≡ Ok (ValueIs v))
unfolding value_rules field_bytes
value_again bs v is begins =
    let kind_fits : 5 < 2 ^ 32 = omega arith in
    let len_below : length v.bytes ≤ 2000 = omega (arith, is.bytes.0) in
    let bytes = Begins-before bs _ v.bytes 32 (length v.bytes) refl begins in
    let seq = u64_before bs _ 24 v.seq (fits_64 _ is.seq) bytes.0 in
    let lver = u64_before bs _ 16 v.lver (fits_64 _ is.lver) seq.0 in
    let host = u32_before bs _ 12 v.host (fits_32 _ is.host) lver.0 in
    let len = u32_before bs _ 8 (length v.bytes) (fits_32 _ len_below) host.0 in
    let kind = u32_before bs _ 4 5 kind_fits len.0 in
    let holds : Hold (value_rules bs) = (
      rw len.1 (le-leb (length v.bytes) 256 is.bytes.0),
      (
        rw host.1 (le-leb v.host 2000 is.host),
        (
          rw lver.1 (lt-ltb v.lver record_numbers is.lver),
          (rw seq.1 (lt-ltb v.seq record_numbers is.seq), tt),
        ),
      ),
    ) in
    let read : value_of bs ≡ v = rw (len.1, host.1, lver.1, seq.1, bytes.1) refl in
    (kind.0.front, ap (λ (k : ℕ). fields_of k bs) kind.1 ∙ of_kind bs ∙ ap (as_record ValueIs) (under_held_rules (value_rules bs) (value_of bs) holds ∙ ap (λ (x : ValueRec). Ok x) read))
