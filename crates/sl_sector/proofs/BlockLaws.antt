-- The block: what is read of it is spelled so, and what is spelled so is read.
use Rattle.sl_sector.proofs.ByteLaws.{IsBytes}
use Rattle.sl_sector.proofs.FieldLaws.{Begins, length-magic, length-u32_bytes, length-u64_bytes, take-u32, take-u64, u32_before, u64_before}
use Rattle.sl_sector.proofs.RuleLaws.{Hold, both_zero, both_zero_test, code_of_flag, false_with_zero, false_with_zero_test, fits_32, fits_64, flag_below, flag_fits, flag_is_zero, flag_of_code, flag_zero, in_range, in_range_test, number, under_held_rules, unless_zero, unless_zero_test}
use Rattle.sl_sector.specs.FieldBytes.{flag, u32_at, u64_at}
use Rattle.sl_sector.specs.Records.{IsBlock}
use Rattle.sl_sector.specs.SectorLayouts.{as_record, block_fields, block_of, block_rules, field_bytes, fields_of, magic, under_rules}
use Rattle.sl_sector.specs.declared.sector.Block.{Block}
use Rattle.sl_sector.specs.declared.sector.Rec.TheVariants.{BlockIs}
use Rattle.sl_words.proofs.WordLaws.{and_true}
use Rattle.sl_words.specs.Bounds.{record_numbers}
use Rattle.std.proofs.Common.{List, Ok, ap, arith, length, length-append, refl, take, ℕ, ◌<◌, ◌^◌, ◌≡◌, ◌≤◌, ◌∙◌}
use Rattle.std.proofs.lemmas.Bool.{and_from, eq-eqb, eqb-true, le-leb, leb-true, lt-ltb}

-- The rules of the fields are those of the record.
pub block_fits : (bs : List ℕ) → Hold (block_rules bs) → IsBlock (block_of bs)
unfolding block_rules
block_fits bs (host, (mode, (lver, (mbal, (bal, (inp_gen, (mode_gen, (inp, _)))))))) =
    let lver_parts = and_true _ _ lver in
    let mbal_parts = and_true _ _ mbal in
    let inp_gen_parts = and_true _ _ inp_gen in
    let mode_gen_parts = and_true _ _ mode_gen in
    let inp_parts = and_true _ _ inp in
    record {
      host = in_range 1 2000 (u32_at bs 8) host;
      lver = number (u64_at bs 16) lver_parts.0;
      mbal = number (u64_at bs 24) mbal_parts.0;
      bal = leb-true _ _ bal;
      generations = (number (u64_at bs 40) inp_gen_parts.0, number (u64_at bs 48) mode_gen_parts.0);
      inp = leb-true (u32_at bs 56) 2000 inp_parts.0;
      value = (both_zero (u64_at bs 32) (u64_at bs 40) inp_gen_parts.1, both_zero (u64_at bs 32) (u32_at bs 56) inp_parts.1);
      mode = false_with_zero (u32_at bs 12) (u64_at bs 48) (leb-true _ _ mode) mode_gen_parts.1;
      unused = (λ e. (eqb-true _ _ (unless_zero _ _ mbal_parts.1 e), flag_zero _ (eqb-true _ _ (unless_zero _ _ lver_parts.1 e))));
    }

-- What the fields give is spelled by the bytes, whichever record has them.
pub block_fields_text : (k : ℕ) (bs : List ℕ) → IsBytes bs → 512 ≤ length bs → take 4 bs ≡ magic → u32_at bs 4 ≡ k → Hold (block_rules bs)
    → take 60 bs ≡ block_fields k (block_of bs)
unfolding block_rules
block_fields_text k bs fits long begins kind (_, (mode, _)) =
    rw (
      take-u32 bs 56 fits (omega arith),
      take-u64 bs 48 fits (omega arith),
      take-u64 bs 40 fits (omega arith),
      take-u64 bs 32 fits (omega arith),
      take-u64 bs 24 fits (omega arith),
      take-u64 bs 16 fits (omega arith),
      take-u32 bs 12 fits (omega arith),
      take-u32 bs 8 fits (omega arith),
      take-u32 bs 4 fits (omega arith),
      begins,
      kind,
      flag_of_code (u32_at bs 12) (leb-true (u32_at bs 12) 1 mode),
    ) refl

pub block_text : (bs : List ℕ) → IsBytes bs → 512 ≤ length bs → take 4 bs ≡ magic → u32_at bs 4 ≡ 3 → Hold (block_rules bs)
    → take 60 bs ≡ field_bytes (BlockIs (block_of bs))
unfolding field_bytes
block_text bs fits long begins kind holds = block_fields_text 3 bs fits long begins kind holds

-- How long the text is.
pub length-block_fields : (k : ℕ) (b : Block) → length (block_fields k b) ≡ 60
length-block_fields k b = simp (length-append, length-u32_bytes, length-u64_bytes, length-magic)

pub length-block : (b : Block) → length (field_bytes (BlockIs b)) ≡ 60
unfolding field_bytes
length-block b = length-block_fields 3 b

-- Number 3 is the block.
of_kind : (bs : List ℕ) → fields_of 3 bs ≡ as_record BlockIs (under_rules (block_rules bs) (block_of bs))
unfolding fields_of
of_kind bs = refl

-- A record of this number, with a block's fields, and these are the block's.
pub record HasBlock (k : ℕ) (bs : List ℕ) (b : Block) : Type 0 where
  pub begins : take 4 bs ≡ magic
  pub kind : u32_at bs 4 ≡ k
  pub holds : Hold (block_rules bs)
  pub read : block_of bs ≡ b

-- A block's fields are read as that block.
pub block_fields_again : (k : ℕ) (bs : List ℕ) (b : Block) → k < 2 ^ 32 → IsBlock b → Begins bs (block_fields k b) 60 → HasBlock k bs b
unfolding block_rules
block_fields_again k bs b kind_fits is begins =
    let bal_below : b.bal < record_numbers = omega (arith, is.bal, is.mbal) in
    let inp = u32_before bs _ 56 b.inp (fits_32 _ is.inp) begins in
    let mode_gen = u64_before bs _ 48 b.mode_gen (fits_64 _ is.generations.1) inp.0 in
    let inp_gen = u64_before bs _ 40 b.inp_gen (fits_64 _ is.generations.0) mode_gen.0 in
    let bal = u64_before bs _ 32 b.bal (fits_64 _ bal_below) inp_gen.0 in
    let mbal = u64_before bs _ 24 b.mbal (fits_64 _ is.mbal) bal.0 in
    let lver = u64_before bs _ 16 b.lver (fits_64 _ is.lver) mbal.0 in
    let mode = u32_before bs _ 12 (flag b.shared) (flag_fits b.shared) lver.0 in
    let host = u32_before bs _ 8 b.host (fits_32 _ is.host.1) mode.0 in
    let kind = u32_before bs _ 4 k kind_fits host.0 in
    let holds : Hold (block_rules bs) = (
      rw host.1 (in_range_test 1 2000 b.host is.host.0 is.host.1),
      (
        rw mode.1 (le-leb (flag b.shared) 1 (flag_below b.shared)),
        (
          rw (lver.1, mode.1) (and_from _ _ (lt-ltb b.lver record_numbers is.lver) (unless_zero_test b.lver _ (λ e. flag_is_zero _ (is.unused e).1))),
          (
            rw (lver.1, mbal.1) (and_from _ _ (lt-ltb b.mbal record_numbers is.mbal) (unless_zero_test b.lver _ (λ e. eq-eqb _ _ (is.unused e).0))),
            (
              rw (bal.1, mbal.1) (le-leb b.bal b.mbal is.bal),
              (
                rw (bal.1, inp_gen.1) (and_from _ _ (lt-ltb b.inp_gen record_numbers is.generations.0) (both_zero_test b.bal b.inp_gen is.value.0)),
                (
                  rw (mode.1, mode_gen.1) (and_from _ _ (lt-ltb b.mode_gen record_numbers is.generations.1) (false_with_zero_test b.shared b.mode_gen is.mode)),
                  (rw (bal.1, inp.1) (and_from _ _ (le-leb b.inp 2000 is.inp) (both_zero_test b.bal b.inp is.value.1)), tt),
                ),
              ),
            ),
          ),
        ),
      ),
    ) in
    let read : block_of bs ≡ b =
    rw (host.1, mode.1, lver.1, mbal.1, bal.1, inp_gen.1, mode_gen.1, inp.1, code_of_flag b.shared) refl in
    record { begins = kind.0.front; kind = kind.1; holds = holds; read = read }

-- A block's bytes are read as that block.
pub block_again : (bs : List ℕ) (b : Block) → IsBlock b → Begins bs (field_bytes (BlockIs b)) 60
    → (take 4 bs ≡ magic) × (fields_of (u32_at bs 4) bs ≡ Ok (BlockIs b))
unfolding field_bytes
block_again bs b is begins =
    let has = block_fields_again 3 bs b (omega arith) is begins in (
      has.begins,
      ap (λ (k : ℕ). fields_of k bs) has.kind ∙ of_kind bs
          ∙ ap (as_record BlockIs) (under_held_rules (block_rules bs) (block_of bs) has.holds ∙ ap (λ (x : Block). Ok x) has.read),
    )
