-- Blocks that keep their rules.
use Rattle.sl_ballot.proofs.RiseLaws.{numbers_rise}
use Rattle.sl_ballot.proofs.ValueLaws.{values_are_kept}
use Rattle.sl_ballot.specs.Laws.{BlocksAreRecords, IsBelowIn, IsMode, IsOwner}
use Rattle.sl_trace.specs.Ballots.{phase1_block, phase2_block, value_of, value_to_write}
use Rattle.sl_sector.specs.Records.{Fits, IsBlock}
use Rattle.sl_sector.specs.declared.sector.Block.{Block}
use Rattle.sl_sector.specs.declared.sector.Owner.{Owner}
use Rattle.sl_words.specs.Bounds.{most_hosts}
use Rattle.std.proofs.Common.{All, Bool, List, arith, cond, false, inl, inr, refl, subst, sym, true, ◌<◌, ◌==◌, ◌≡◌, ◌≤◌, ◌↔◌, ℕ}
use Rattle.std.proofs.lemmas.Bool.{cases_lt, eqb-true}
use Rattle.std.proofs.lemmas.List.Elements.{All-contains, All-head}

-- The ballot's fields as a block may have them, below this number.
record IsBallot (mbal bal inp_gen inp : ℕ) : Type 0 where
  most : bal ≤ mbal
  fits : Fits inp_gen
  host : inp ≤ most_hosts
  same : (bal ≡ 0 ↔ inp_gen ≡ 0) × (bal ≡ 0 ↔ inp ≡ 0)

-- What is kept of the own block.
kept-ballot : (n mbal : ℕ) (own : Block) (t : Bool) → (own.lver == n) ≡ t → IsBlock own → IsBelowIn n mbal own → IsBallot mbal (cond t own.bal 0) (cond t own.inp_gen 0) (cond t own.inp 0)
kept-ballot n mbal own true is h below =
    let lt : own.mbal < mbal = below (eqb-true own.lver n is) in
    record { most = omega (arith, h.bal); fits = h.generations.0; host = h.inp; same = h.value }
kept-ballot n mbal own false is h below = record { most = omega arith; fits = omega arith; host = omega arith; same = (((λ e. refl), (λ e. refl)), ((λ e. refl), (λ e. refl))) }

-- What is zero only where a bal is, isn't zero where there is one.
not-zero : (bal m : ℕ) → 0 < bal → (m ≡ 0 → bal ≡ 0) → 1 ≤ m
not-zero bal m pos zero = elim (cases_lt 0 m) [ inl lt ↦ omega arith | inr ge ↦ absurd (let none : bal ≡ 0 = zero (omega arith) in omega arith) ]

-- The value of a block with a bal is one that a block may name.
value-of-chosen : (b : Block) → 0 < b.bal → IsBlock b → IsOwner (value_of b)
value-of-chosen b chosen h = (not-zero b.bal b.inp chosen h.value.1.1, h.inp, not-zero b.bal b.inp_gen chosen h.value.0.1, h.generations.0)

-- So is the value to write.
value-fits : (self : Owner) (n : ℕ) (blocks : List Block) → IsOwner self → All IsBlock blocks → IsOwner (value_to_write self n blocks)
value-fits self n blocks me all =
    elim (values_are_kept.best self n blocks) [
      | inl h ↦ subst IsOwner (sym h.1) me
      | inr h ↦ subst IsOwner (sym h.2) (value-of-chosen h.0 h.1.chosen (All-contains IsBlock blocks h.0 all h.1.among))
    ]

-- Phase 1.
first-block : (self : Owner) (hosts n : ℕ) (shared : Bool) (mode_gen : ℕ) (own : Block) (seen : List Block)
    → 1 ≤ self.id → self.id ≤ hosts → hosts ≤ most_hosts → 1 ≤ n → Fits n → IsMode shared mode_gen → IsBlock own
    → Fits (phase1_block self hosts n shared mode_gen own seen).mbal → IsBlock (phase1_block self hosts n shared mode_gen own seen)
unfolding phase1_block
first-block self hosts n shared mode_gen own seen one le most pos fits mode h limit =
    let mbal : ℕ = (phase1_block self hosts n shared mode_gen own seen).mbal in
    let below : IsBelowIn n mbal own = All-head (IsBelowIn n mbal) own seen (numbers_rise.above self hosts n shared mode_gen own seen one le) in
    let kept : IsBallot mbal (cond (own.lver == n) own.bal 0) (cond (own.lver == n) own.inp_gen 0) (cond (own.lver == n) own.inp 0) = kept-ballot n mbal own (own.lver == n) refl h below in
    record {
      host = (one, omega arith);
      lver = fits;
      mbal = limit;
      bal = kept.most;
      generations = (kept.fits, mode.1);
      inp = kept.host;
      value = kept.same;
      mode = mode.0;
      unused = (λ e. absurd (omega arith));
    }

-- Phase 2.
second-block : (self : Owner) (own : Block) (blocks : List Block) → IsOwner self → IsBlock own → 1 ≤ own.lver → 1 ≤ own.mbal → All IsBlock blocks
    → IsBlock (phase2_block self own blocks)
unfolding phase2_block
second-block self own blocks me h instance number all =
    let value : IsOwner (value_to_write self own.lver blocks) = value-fits self own.lver blocks me all in
    record {
      host = h.host;
      lver = h.lver;
      mbal = h.mbal;
      bal = omega arith;
      generations = (value.3, h.generations.1);
      inp = value.1;
      value = (((λ e. absurd (omega arith)), (λ e. absurd (omega (arith, value.2)))), ((λ e. absurd (omega arith)), (λ e. absurd (omega (arith, value.0)))));
      mode = h.mode;
      unused = (λ e. absurd (omega arith));
    }

pub blocks_are_records : BlocksAreRecords
blocks_are_records = record {
  phase1 = first-block;
  phase2 = second-block;
  moded = (λ own shared mode_gen h instance mode. record {
    host = h.host;
    lver = h.lver;
    mbal = h.mbal;
    bal = h.bal;
    generations = (h.generations.0, mode.1);
    inp = h.inp;
    value = h.value;
    mode = mode.0;
    unused = (λ e. absurd (omega arith));
  });
}
