-- The delta record: what is read of it is spelled so, and what is spelled so is read.
use Rattle.sl_sector.proofs.ByteLaws.{IsBytes, IsBytes-drop, IsBytes-take, test_from_bytes, zeros_from_test}
use Rattle.sl_sector.proofs.FieldLaws.{Begins, Begins-before, length-magic, length-name_bytes, length-no_name, length-u32_bytes, length-u64_bytes, length_part, name_before, no_name_before, take-name, take-no_name, take-u32, take-u64, u32_before, u64_before}
use Rattle.sl_sector.proofs.RuleLaws.{Hold, fits_32, fits_64, in_range, in_range_test, number, positive, under_held_rules, unless_zero, unless_zero_test}
use Rattle.sl_sector.specs.FieldBytes.{delta_code, delta_state, is_host_field, name_at, name_bytes, u32_at, u32_bytes, u64_at, u64_bytes}
use Rattle.sl_sector.specs.Records.{IsDelta}
use Rattle.sl_sector.specs.SectorLayouts.{as_record, delta_of, delta_rules, field_bytes, fields_of, magic, under_rules}
use Rattle.sl_sector.specs.declared.sector.DeltaRec.{DeltaRec}
use Rattle.sl_sector.specs.declared.sector.DeltaState.TheVariants.{Claimed, Free, Live}
use Rattle.sl_sector.specs.declared.sector.DeltaState.{DeltaState}
use Rattle.sl_sector.specs.declared.sector.Rec.TheVariants.{DeltaIs}
use Rattle.sl_text.specs.Names.{is_name}
use Rattle.sl_words.proofs.WordLaws.{and_true}
use Rattle.sl_words.specs.Bounds.{moments, record_numbers}
use Rattle.sl_words.specs.Words.{all_zero, choose}
use Rattle.std.proofs.Common.{Bool, List, None, Ok, Option, Some, [], ap, arith, drop, eqb, false, inl, inr, length, length-append, refl, take, true, ℕ, ◌++◌, ◌+◌, ◌<◌, ◌^◌, ◌≡◌, ◌≤◌, ◌∙◌}
use Rattle.std.proofs.Math.ListN.{replicate}
use Rattle.std.proofs.Math.Seq.{take-add}
use Rattle.std.proofs.lemmas.Bool.{and_from, cases_Bool, eq-eqb, eqb-false, eqb-true, le-leb, leb-true, lt-ltb, ltb-true, ne_eqb}
use Rattle.std.proofs.lemmas.Bool.Decides.{nat_tests}
use Rattle.std.specs.Prelude.{IsSomeAnd, IsTrue, not, unwrap_or}

-- ---- the state and its number

-- The number of a number's state.
code_of_state : (code : ℕ) → code ≤ 2 → delta_code (delta_state code) ≡ code
code_of_state code le =
    elim (cases_Bool (eqb code 0)) [
      | inl e ↦ rw (eqb-true code 0 e) refl
      | inr e ↦ elim (cases_Bool (eqb code 1)) [
        | inl f ↦ rw (eqb-true code 1 f) refl
        | inr f ↦ rw (e, f) (grind (arith, nat_tests))
      ]
    ]

-- The state of a state's number.
state_of_code : (s : DeltaState) → delta_state (delta_code s) ≡ s
state_of_code Free = refl
state_of_code Claimed = refl
state_of_code Live = refl

-- There are three states.
code_below : (s : DeltaState) → delta_code s ≤ 2
code_below Free = omega arith
code_below Claimed = omega arith
code_below Live = omega arith

-- ---- what is read

-- The host's name, where the record was claimed.
host_named : (unused : Bool) (bs : List ℕ) (at : ℕ) → is_host_field unused bs at ≡ true → unused ≡ false → IsSomeAnd (choose (not unused) (name_at bs at)) (λ n. IsTrue (is_name n))
host_named true bs at h e = absurd cc
host_named false bs at h e = (and_true _ _ h).1

-- No name, where the record was never claimed.
host_absent : (unused : Bool) (name : List ℕ) → unused ≡ true → choose (not unused) name ≡ None
host_absent true name e = refl
host_absent false name e = absurd cc

-- The bitmap has 250 bytes.
bitmap_long : (bs : List ℕ) → 512 ≤ length bs → length (take 250 (drop 136 bs)) ≡ 250
bitmap_long bs long = length_part bs 136 250 (omega arith)

-- The rules of the fields are those of the record.
pub delta_fits : (bs : List ℕ) → IsBytes bs → 512 ≤ length bs → Hold (delta_rules bs) → IsDelta (delta_of bs)
unfolding delta_rules
delta_fits bs fits long (state, (id, (generation, (seq, (stamp, (lockspace, (host, (bitmap, _)))))))) =
    let generation_parts = and_true _ _ generation in
    let seq_parts = and_true _ _ seq in
    let stamp_parts = and_true _ _ stamp in
    record {
      id = in_range 1 2000 (u32_at bs 12) id;
      generation = number (u64_at bs 16) generation_parts.0;
      seq = number (u64_at bs 24) seq_parts.0;
      stamp = ltb-true (u64_at bs 32) moments stamp_parts.0;
      lockspace = (and_true _ _ lockspace).1;
      bitmap = (bitmap_long bs long, test_from_bytes _ (IsBytes-take 250 (drop 136 bs) (IsBytes-drop 136 bs fits)));
      unused = (λ e. (
        ap delta_state (eqb-true _ _ (unless_zero _ _ generation_parts.1 e)),
        eqb-true _ _ (unless_zero _ _ seq_parts.1 e),
        eqb-true _ _ (unless_zero _ _ stamp_parts.1 e),
        host_absent (eqb (u64_at bs 16) 0) (name_at bs 88) (eq-eqb _ _ e),
        zeros_from_test _ (unless_zero _ _ bitmap e) ∙ ap (λ (n : ℕ). replicate n 0) (bitmap_long bs long),
      ));
      used = (λ lt. host_named (eqb (u64_at bs 16) 0) bs 88 host (ne_eqb _ _ (λ e. absurd (omega (arith, e, lt)))));
    }

-- The host's name is spelled by the bytes.
take-host : (unused : Bool) (bs : List ℕ) (at : ℕ) → at + 48 ≤ length bs → is_host_field unused bs at ≡ true
    → take (at + 48) bs ≡ take at bs ++ name_bytes (unwrap_or (choose (not unused) (name_at bs at)) [])
take-host true bs at h ok = take-no_name bs at h ok
take-host false bs at h ok = take-name bs at h ok

-- What the fields give is spelled by the bytes.
pub delta_text : (bs : List ℕ) → IsBytes bs → 512 ≤ length bs → take 4 bs ≡ magic → u32_at bs 4 ≡ 1 → Hold (delta_rules bs)
    → take 386 bs ≡ field_bytes (DeltaIs (delta_of bs))
unfolding delta_rules field_bytes
delta_text bs fits long begins kind (state, (_, (_, (_, (_, (lockspace, (host, _))))))) =
    rw (
      take-add 136 250 bs,
      take-host (eqb (u64_at bs 16) 0) bs 88 (omega arith) host,
      take-name bs 40 (omega arith) lockspace,
      take-u64 bs 32 fits (omega arith),
      take-u64 bs 24 fits (omega arith),
      take-u64 bs 16 fits (omega arith),
      take-u32 bs 12 fits (omega arith),
      take-u32 bs 8 fits (omega arith),
      take-u32 bs 4 fits (omega arith),
      begins,
      kind,
      code_of_state (u32_at bs 8) (leb-true (u32_at bs 8) 2 state),
    ) refl

-- ---- what is spelled

-- The host is absent exactly where the record was never claimed.
pub record HostFits (unused : Bool) (host : Option (List ℕ)) : Type 0 where
  pub absent : unused ≡ true → host ≡ None
  pub there : unused ≡ false → IsSomeAnd host (λ n. IsTrue (is_name n))

-- The host's name of a record that meets its rules.
pub host_fits : (d : DeltaRec) → IsDelta d → HostFits (eqb d.generation 0) d.host
host_fits d is = record {
  absent = (λ e. (is.unused (eqb-true _ _ e)).3);
  there = (λ e. is.used (positive d.generation (eqb-false _ _ e)));
}

-- Its field has 48 bytes, whether there is a name or none.
pub length-host : (unused : Bool) (host : Option (List ℕ)) → HostFits unused host → length (name_bytes (unwrap_or host [])) ≡ 48
length-host unused None fits = length-no_name
length-host true (Some n) fits = absurd (let e = fits.absent refl in cc)
length-host false (Some n) fits = length-name_bytes n (fits.there refl)

-- The host's name and what is before it.
host_before : (bs text : List ℕ) (unused : Bool) (host : Option (List ℕ)) (at : ℕ) → HostFits unused host → Begins bs (text ++ name_bytes (unwrap_or host [])) (at + 48)
    → Begins bs text at × (is_host_field unused bs at ≡ true) × (choose (not unused) (name_at bs at) ≡ host)
host_before bs text true None at fits b = let p = no_name_before bs text at b in (p.0, p.1, refl)
host_before bs text true (Some n) at fits b = absurd (let e = fits.absent refl in cc)
host_before bs text false None at fits b = absurd (fits.there refl)
host_before bs text false (Some n) at fits b = let p = name_before bs text at n (fits.there refl) b in (p.0, p.1, ap (λ (m : List ℕ). Some m) p.2)

-- How long the text is.
pub length-delta : (d : DeltaRec) → IsDelta d → length (field_bytes (DeltaIs d)) ≡ 386
unfolding field_bytes
length-delta d is =
    simp (length-append, length-u32_bytes, length-u64_bytes, length-magic, length-name_bytes d.lockspace is.lockspace, length-host (eqb d.generation 0) d.host (host_fits d is), is.bitmap.0)

-- Number 1 is the delta record.
of_kind : (bs : List ℕ) → fields_of 1 bs ≡ as_record DeltaIs (under_rules (delta_rules bs) (delta_of bs))
unfolding fields_of
of_kind bs = refl

-- A delta record's bytes are read as that record.
pub delta_again : (bs : List ℕ) (d : DeltaRec) → IsDelta d → Begins bs (field_bytes (DeltaIs d)) 386
    → (take 4 bs ≡ magic) × (fields_of (u32_at bs 4) bs ≡ Ok (DeltaIs d))
unfolding delta_rules field_bytes
delta_again bs d is begins =
    let kind_fits : 1 < 2 ^ 32 = omega arith in
    let stamp_fits : d.stamp < 2 ^ 64 = omega (arith, is.stamp) in
    let code_fits : delta_code d.state ≤ 2000 = omega (arith, code_below d.state) in
    let unused = λ (e : d.generation ≡ 0). is.unused e in
    let bitmap = Begins-before bs _ d.bitmap 136 250 is.bitmap.0 begins in
    let host = host_before bs _ (eqb d.generation 0) d.host 88 (host_fits d is) bitmap.0 in
    let lockspace = name_before bs _ 40 d.lockspace is.lockspace host.0 in
    let stamp = u64_before bs _ 32 d.stamp stamp_fits lockspace.0 in
    let seq = u64_before bs _ 24 d.seq (fits_64 _ is.seq) stamp.0 in
    let generation = u64_before bs _ 16 d.generation (fits_64 _ is.generation) seq.0 in
    let id = u32_before bs _ 12 d.id (fits_32 _ is.id.1) generation.0 in
    let state = u32_before bs _ 8 (delta_code d.state) (fits_32 _ code_fits) id.0 in
    let kind = u32_before bs _ 4 1 kind_fits state.0 in
    let holds : Hold (delta_rules bs) = (
      rw state.1 (le-leb (delta_code d.state) 2 (code_below d.state)),
      (
        rw id.1 (in_range_test 1 2000 d.id is.id.0 is.id.1),
        (
          rw (generation.1, state.1) (and_from _ _ (lt-ltb d.generation record_numbers is.generation) (unless_zero_test d.generation _ (λ e. eq-eqb _ _ (ap delta_code (unused e).0)))),
          (
            rw (generation.1, seq.1) (and_from _ _ (lt-ltb d.seq record_numbers is.seq) (unless_zero_test d.generation _ (λ e. eq-eqb _ _ (unused e).1))),
            (
              rw (generation.1, stamp.1) (and_from _ _ (lt-ltb d.stamp moments is.stamp) (unless_zero_test d.generation _ (λ e. eq-eqb _ _ (unused e).2))),
              (
                lockspace.1,
                (
                  rw generation.1 host.1,
                  (rw (generation.1, bitmap.1) (unless_zero_test d.generation _ (λ e. ap all_zero (unused e).4)), tt),
                ),
              ),
            ),
          ),
        ),
      ),
    ) in
    let read : delta_of bs ≡ d =
    rw (state.1, id.1, generation.1, seq.1, stamp.1, lockspace.2, host.2, bitmap.1, state_of_code d.state) refl in
    (kind.0.front, ap (λ (k : ℕ). fields_of k bs) kind.1 ∙ of_kind bs ∙ ap (as_record DeltaIs) (under_held_rules (delta_rules bs) (delta_of bs) holds ∙ ap (λ (x : DeltaRec). Ok x) read))

-- What is written of a record, one part behind another.
pub delta_put : (d : DeltaRec) (name u v w x : List ℕ) → name ≡ d.lockspace → length d.bitmap ≡ 250
    → take 40 u ≡ magic ++ u32_bytes 1 ++ u32_bytes (delta_code d.state) ++ u32_bytes d.id ++ u64_bytes d.generation ++ u64_bytes d.seq ++ u64_bytes d.stamp
    → take 88 v ≡ take 40 u ++ name_bytes name → take 136 w ≡ take 88 v ++ name_bytes (unwrap_or d.host [])
    → take (136 + length d.bitmap) x ≡ take 136 w ++ d.bitmap → take 386 x ≡ field_bytes (DeltaIs d)
unfolding field_bytes
delta_put d name u v w x is long numbers named host bits =
    let all : 386 ≡ 136 + length d.bitmap = omega arith in
    ap (λ n. take n x) all ∙ bits ∙ ap (λ t. t ++ d.bitmap) (host ∙ ap (λ t. t ++ name_bytes (unwrap_or d.host [])) (named ∙ rw (is, numbers) refl))
