-- The block of a pair: what is read of it is spelled so, and what is spelled so is read.
use Rattle.sl_sector.proofs.BlockLaws.{block_fields_again, block_fields_text, block_fits}
use Rattle.sl_sector.proofs.ByteLaws.{IsBytes}
use Rattle.sl_sector.proofs.FieldLaws.{Begins, length-magic, length-name_bytes, length-u32_bytes, length-u64_bytes, name_before, take-name, take-u64, u64_before}
use Rattle.sl_sector.proofs.RuleLaws.{Hold, fits_64, hold_behind, hold_parts, number, rules_hold, under_held_rules, under_rules_behind}
use Rattle.sl_sector.specs.FieldBytes.{u32_at, u64_at}
use Rattle.sl_sector.specs.Records.{IsPair}
use Rattle.sl_sector.specs.SectorLayouts.{as_record, block_of, block_rules, field_bytes, fields_of, magic, own_rules, pair_of, pair_rules, pair_with, under_rules}
use Rattle.sl_sector.specs.declared.sector.Bad.{Bad}
use Rattle.sl_sector.specs.declared.sector.Block.{Block}
use Rattle.sl_sector.specs.declared.sector.PairBlock.{PairBlock}
use Rattle.sl_sector.specs.declared.sector.Rec.TheVariants.{PairIs}
use Rattle.sl_words.proofs.WordLaws.{and_true}
use Rattle.sl_words.specs.Bounds.{record_numbers}
use Rattle.std.proofs.Common.{Err, List, Ok, Result, ap, arith, eqb, length, length-append, refl, sym, take, true, ℕ, ◌≡◌, ◌≤◌, ◌∙◌}
use Rattle.std.proofs.lemmas.Bool.{and_from, lt-ltb}
use Rattle.std.proofs.lemmas.Bool.Decides.{nat_tests}
use Rattle.std.specs.Prelude.{not}

-- A turn is above 0.
above_zero : (n : ℕ) → not (eqb n 0) ≡ true → 1 ≤ n
above_zero n h = grind (arith, nat_tests)

above_zero_test : (n : ℕ) → 1 ≤ n → not (eqb n 0) ≡ true
above_zero_test n h = grind (arith, nat_tests)

-- The rules of the fields are those of the record.
pub pair_fits : (bs : List ℕ) → Hold (pair_rules bs) → IsPair (pair_of bs)
unfolding own_rules
pair_fits bs holds =
    let parts = hold_parts (block_rules bs) (own_rules bs) holds in
    let turn = and_true _ _ parts.1.0 in
    record {
      block = block_fits bs parts.0;
      turn = (above_zero (u64_at bs 60) turn.1, number (u64_at bs 60) turn.0);
      lockspace = (and_true _ _ parts.1.1.0).1;
      resource = (and_true _ _ parts.1.1.1.0).1;
    }

-- What the fields give is spelled by the bytes.
pub pair_text : (bs : List ℕ) → IsBytes bs → 512 ≤ length bs → take 4 bs ≡ magic → u32_at bs 4 ≡ 6 → Hold (pair_rules bs)
    → take 164 bs ≡ field_bytes (PairIs (pair_of bs))
unfolding own_rules field_bytes
pair_text bs fits long begins kind holds =
    let parts = hold_parts (block_rules bs) (own_rules bs) holds in
    rw (
      take-name bs 116 (omega arith) parts.1.1.1.0,
      take-name bs 68 (omega arith) parts.1.1.0,
      take-u64 bs 60 fits (omega arith),
      block_fields_text 6 bs fits long begins kind parts.0,
    ) refl

-- How long the text is.
pub length-pair : (p : PairBlock) → IsPair p → length (field_bytes (PairIs p)) ≡ 164
unfolding field_bytes
length-pair p is =
    simp (length-append, length-magic, length-u32_bytes, length-u64_bytes, length-name_bytes p.lockspace is.lockspace, length-name_bytes p.resource is.resource)

-- Number 6 is the block of a pair.
of_kind : (bs : List ℕ) → fields_of 6 bs ≡ as_record PairIs (under_rules (pair_rules bs) (pair_of bs))
unfolding fields_of
of_kind bs = refl

-- The bytes of a pair's block are read as that block.
pub pair_again : (bs : List ℕ) (p : PairBlock) → IsPair p → Begins bs (field_bytes (PairIs p)) 164
    → (take 4 bs ≡ magic) × (fields_of (u32_at bs 4) bs ≡ Ok (PairIs p))
unfolding own_rules field_bytes
pair_again bs p is begins =
    let resource = name_before bs _ 116 p.resource is.resource begins in
    let lockspace = name_before bs _ 68 p.lockspace is.lockspace resource.0 in
    let turn = u64_before bs _ 60 p.turn (fits_64 _ is.turn.1) lockspace.0 in
    let has = block_fields_again 6 bs p.block (omega arith) is.block turn.0 in
    let holds : Hold (pair_rules bs) =
    hold_behind (block_rules bs) (own_rules bs) has.holds
    (rw turn.1 (and_from _ _ (lt-ltb p.turn record_numbers is.turn.1) (above_zero_test p.turn is.turn.0)), (lockspace.1, (resource.1, tt))) in
    let read : pair_of bs ≡ p = rw (has.read, turn.1, lockspace.2, resource.2) refl in (
      has.begins,
      ap (λ (k : ℕ). fields_of k bs) has.kind ∙ of_kind bs
          ∙ ap (as_record PairIs) (under_held_rules (pair_rules bs) (pair_of bs) holds ∙ ap (λ (x : PairBlock). Ok x) read),
    )

-- ---- reading, the block first

abbrev refused : {A : Type 0} → Bad → Result A Bad
refused bad = Err bad

-- Where a block's fields break a rule, that is the answer.
pub block_refused : (bs : List ℕ) (bad : Bad) → refused bad ≡ under_rules (block_rules bs) (block_of bs) → refused bad ≡ under_rules (pair_rules bs) (pair_of bs)
block_refused bs bad h = sym (under_rules_behind (block_rules bs) (own_rules bs) (block_of bs) (pair_of bs) ∙ rw (← h) refl)

-- Else the fields behind them decide.
pub block_paired : (bs : List ℕ) (b : Block) (read : Result PairBlock Bad) → Ok b ≡ under_rules (block_rules bs) (block_of bs)
    → read ≡ under_rules (own_rules bs) (pair_with bs b) → read ≡ under_rules (pair_rules bs) (pair_of bs)
block_paired bs b read h own =
    let same : block_of bs ≡ b = (rules_hold (block_rules bs) (block_of bs) b (sym h)).1 in
    own ∙ ap (λ (x : Block). under_rules (own_rules bs) (pair_with bs x)) (sym same)
    ∙ sym (under_rules_behind (block_rules bs) (own_rules bs) (block_of bs) (pair_of bs) ∙ rw (← h) refl)
