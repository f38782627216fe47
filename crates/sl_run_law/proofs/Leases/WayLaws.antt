-- The three ways, of blocks alone.
use Rattle.sl_run_law.specs.Leases.Ways.{ByMode, ByPhase1, ByPhase2}
use Rattle.sl_trace.specs.Ballots.{in_instance, moded_block, next_mbal, number_above, phase1_block, phase2_block}
use Rattle.sl_words.proofs.Numbers.{less_is_other}
use Rattle.sl_sector.specs.declared.sector.Block.{Block}
use Rattle.sl_sector.specs.declared.sector.Owner.{Owner}
use Rattle.sl_trace.specs.declared.session.Session.{Session}
use Rattle.sl_words.specs.Words.{greatest}
use Rattle.std.proofs.Common.{ap, arith, refl, subst, sym}
use Rattle.std.proofs.lemmas.Bool.Decides.{nat_tests}
use Rattle.std.proofs.lemmas.Bool.{eq-eqb}
use Rattle.std.specs.Prelude.{Bool, List, cond, if◌then◌else◌, map, true, ℕ, ◌+◌, ◌<◌, ◌==◌, ◌∷◌, ◌≡◌, ◌≤◌}

number_rises : (hosts id top : ℕ) → 1 ≤ hosts → top < number_above hosts id top
number_rises hosts id top some = grind (arith, nat_tests)

first_counts : (m : ℕ) (own : Block) (bs : List Block) (b : Bool) → b ≡ true → m < own.mbal + 1 → m < greatest (map (λ (x : Block). x.mbal) (cond b (own ∷ bs) bs)) + 1
first_counts m own bs b is less =
    subst (λ t. m < greatest (map (λ (x : Block). x.mbal) (cond t (own ∷ bs) bs)) + 1) (sym is)
    (omega (arith, less))

phase1_number : (self : Owner) (hosts n : ℕ) (shared : Bool) (gen : ℕ) (own : Block) (seen : List Block) → 1 ≤ hosts → own.lver ≡ n
    → own.mbal < (phase1_block self hosts n shared gen own seen).mbal
unfolding phase1_block
phase1_number self hosts n shared gen own seen some same =
    let top : own.mbal < greatest (map (λ (x : Block). x.mbal) (in_instance n (own ∷ seen))) + 1 =
    first_counts own.mbal own (in_instance n seen) (own.lver == n) (eq-eqb own.lver n same) (omega arith) in
    let more : greatest (map (λ (x : Block). x.mbal) (in_instance n (own ∷ seen))) < next_mbal hosts self.id (map (λ (x : Block). x.mbal) (in_instance n (own ∷ seen))) =
    number_rises hosts self.id (greatest (map (λ (x : Block). x.mbal) (in_instance n (own ∷ seen)))) some in
    omega (arith, top, more)

phase1_positive : (self : Owner) (hosts n : ℕ) (shared : Bool) (gen : ℕ) (own : Block) (seen : List Block) → 1 ≤ hosts → 1 ≤ (phase1_block self hosts n shared gen own seen).mbal
unfolding phase1_block
phase1_positive self hosts n shared gen own seen some =
    let more : greatest (map (λ (x : Block). x.mbal) (in_instance n (own ∷ seen))) < next_mbal hosts self.id (map (λ (x : Block). x.mbal) (in_instance n (own ∷ seen))) =
    number_rises hosts self.id (greatest (map (λ (x : Block). x.mbal) (in_instance n (own ∷ seen)))) some in
    omega (arith, more)

pub by_phase1 : (s : Session) (self : Owner) (hosts n : ℕ) (shared : Bool) (gen : ℕ) (own : Block) (seen : List Block) → 1 ≤ hosts → self.id ≡ s.id → own.lver ≤ n → 1 ≤ n
    → ByPhase1 s own (phase1_block self hosts n shared gen own seen)
unfolding phase1_block
by_phase1 s self hosts n shared gen own seen some named up begun =
    record {
      host = named;
      instance = begun;
      positive = phase1_positive self hosts n shared gen own seen some;
      up = up;
      mbal = λ same. phase1_number self hosts n shared gen own seen some same;
      bal = λ same. ap (λ t. if t then own.bal else 0) (eq-eqb own.lver n same);
      inp = λ same. (ap (λ t. if t then own.inp else 0) (eq-eqb own.lver n same), ap (λ t. if t then own.inp_gen else 0) (eq-eqb own.lver n same));
      anew = λ less. ap (λ t. if t then own.bal else 0) (less_is_other own.lver n less);
    }

pub by_phase2 : (self : Owner) (own : Block) (blocks : List Block) (shared : Bool) (gen : ℕ) → ByPhase2 own (moded_block (phase2_block self own blocks) shared gen)
unfolding phase2_block
by_phase2 self own blocks shared gen = record { host = refl; lver = refl; mbal = refl; bal = refl }

pub by_mode : (own : Block) (shared : Bool) (gen : ℕ) → 1 ≤ own.lver → ByMode own (moded_block own shared gen)
by_mode own shared gen begun = record { begun = begun; host = refl; lver = refl; mbal = refl; bal = refl; inp = (refl, refl) }
