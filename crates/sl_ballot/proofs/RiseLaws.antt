-- The number of phase 1.
use Rattle.sl_ballot.specs.Laws.{IsBelowIn, NumbersRise}
use Rattle.sl_trace.proofs.NumberFacts.{numbers_are_least}
use Rattle.sl_trace.specs.Ballots.{in_instance, next_mbal, phase1_block}
use Rattle.sl_sector.specs.declared.sector.Block.{Block}
use Rattle.sl_words.specs.Words.{greatest}
use Rattle.std.proofs.Common.{All, List, [], arith, cond, false, map, refl, true, ◌*◌, ◌+◌, ◌<◌, ◌==◌, ◌∷◌, ◌≡◌, ℕ}
use Rattle.std.proofs.lemmas.Bool.{eqb-false, eqb-true}
use Rattle.std.proofs.lemmas.List.Elements.{All-cons, All-head, All-nil, All-tail}

-- The numbers in an instance.
abbrev numbers : ℕ → List Block → List ℕ
numbers n bs = map (λ b. b.mbal) (in_instance n bs)

-- None in the instance is above the greatest.
none-above : (n top : ℕ) (bs : List Block) → greatest (numbers n bs) < top → All (IsBelowIn n top) bs
none-above n top [] lt = All-nil (IsBelowIn n top)
none-above n top (b ∷ bs) lt =
    elim (b.lver == n) as (λ t. (b.lver == n) ≡ t → greatest (map (λ b. b.mbal) (cond t (b ∷ in_instance n bs) (in_instance n bs))) < top → All (IsBelowIn n top) (b ∷ bs)) [
      | true ↦ λ is lt. All-cons (IsBelowIn n top) b bs (λ e. omega arith) (none-above n top bs (omega arith))
      | false ↦ λ is lt. All-cons (IsBelowIn n top) b bs (λ e. absurd (eqb-false b.lver n is e)) (none-above n top bs lt)
    ] refl lt

-- The greatest is one of them, or 0.
greatest-below : (n top : ℕ) (bs : List Block) → 0 < top → All (IsBelowIn n top) bs → greatest (numbers n bs) < top
greatest-below n top [] pos all = pos
greatest-below n top (b ∷ bs) pos all =
    let rest : greatest (numbers n bs) < top = greatest-below n top bs pos (All-tail (IsBelowIn n top) b bs all) in
    elim (b.lver == n) as (λ t. (b.lver == n) ≡ t → greatest (map (λ b. b.mbal) (cond t (b ∷ in_instance n bs) (in_instance n bs))) < top) [
      | true ↦ λ is. let here : b.mbal < top = All-head (IsBelowIn n top) b bs all (eqb-true b.lver n is) in omega arith
      | false ↦ λ is. rest
    ] refl

pub numbers_rise : NumbersRise
unfolding phase1_block
numbers_rise = record {
  own_number = (λ self hosts n shared mode_gen own seen one le. numbers_are_least.own hosts self.id (greatest (numbers n (own ∷ seen))) one le);
  above = (λ self hosts n shared mode_gen own seen one le. none-above n (next_mbal hosts self.id (numbers n (own ∷ seen))) (own ∷ seen) (numbers_are_least.above hosts self.id (greatest (numbers n (own ∷ seen))) one le));
  least = (λ self hosts n shared mode_gen own seen one le k all. numbers_are_least.least hosts self.id (greatest (numbers n (own ∷ seen))) k one le (greatest-below n (self.id + hosts * k) (own ∷ seen) (omega arith) all));
}
