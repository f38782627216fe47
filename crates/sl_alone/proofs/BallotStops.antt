-- Stops, and an own block among the others.
use Rattle.sl_alone.specs.BallotLaws.{StopsAreOne}
use Rattle.sl_alone.specs.declared.whole_ballot.BallotStep.TheVariants.{Ahead, Rival}
use Rattle.sl_alone.specs.declared.whole_ballot.BallotStep.{BallotStep}
use Rattle.sl_trace.specs.Ballots.{block_ahead, block_rival, greater_bal, in_instance, value_of}
use Rattle.sl_trace.specs.declared.lease.Stop.TheVariants.{BlockAhead, BlockRival, BlockTorn}
use Rattle.sl_trace.specs.declared.lease.Stop.{Stop}
use Rattle.sl_sector.specs.declared.sector.Block.{Block}
use Rattle.sl_words.specs.Words.{choose}
use Rattle.std.proofs.Common.{Bool, List, None, Option, Some, [], ap, ap₂, arith, cond, false, find, nat_lt, option_map, refl, true, ◌&&◌, ◌++◌, ◌==◌, ◌∙◌, ◌∷◌, ◌≡◌, ℕ}
use Rattle.std.proofs.lemmas.Bool.Decides.{nat_tests}
use Rattle.std.proofs.lemmas.Bool.{and_right}
use Rattle.std.specs.List.{fold}
use Rattle.std.specs.Option.{option_map_or}

-- ---- what stops, by the two blocks that are looked for

-- The stop.
abbrev stop : Option Block → Option Block → Option Stop
stop a r = elim a [ Some b ↦ Some (BlockAhead b.host b.lver) | None ↦ option_map (λ b. BlockRival b.host b.mbal) r ]

-- The step.
abbrev step : Option Block → Option Block → BallotStep → BallotStep
step a r next = elim a [ Some b ↦ Ahead b.host b.lver | None ↦ elim r [ Some b ↦ Rival b.host b.mbal | None ↦ next ] ]

step-clear : (a r : Option Block) (next : BallotStep) → stop a r ≡ None → step a r next ≡ next
step-clear None None next e = refl
step-clear None (Some b) next e = absurd cc
step-clear (Some b) r next e = absurd cc

step-ahead : (a r : Option Block) (next : BallotStep) (h l : ℕ) → stop a r ≡ Some (BlockAhead h l) → step a r next ≡ Ahead h l
step-ahead None None next h l e = absurd cc
step-ahead None (Some b) next h l e = absurd cc
step-ahead (Some b) r next h l e = cc

step-rival : (a r : Option Block) (next : BallotStep) (h m : ℕ) → stop a r ≡ Some (BlockRival h m) → step a r next ≡ Rival h m
step-rival None None next h m e = absurd cc
step-rival None (Some b) next h m e = cc
step-rival (Some b) r next h m e = absurd cc

step-torn : (a r : Option Block) (h : ℕ) → stop a r ≡ Some (BlockTorn h) → ⊥
step-torn None None h e = absurd cc
step-torn None (Some b) h e = absurd cc
step-torn (Some b) r h e = absurd cc

-- ---- a block among others

-- One that isn't looked for isn't found.
find-without : (p : Block → Bool) (b : Block) (before after : List Block) → p b ≡ false → find p (before ++ b ∷ after) ≡ find p (before ++ after)
find-without p b [] after h = ap (λ t. cond t (Some b) (find p after)) h
find-without p b (x ∷ xs) after h = ap (cond (p x) (Some x)) (find-without p b xs after h)

-- No number is below itself.
not-below : (n : ℕ) → nat_lt n n ≡ false
not-below n = grind (arith, nat_tests)

-- .. nor below zero.
not-below-zero : (n : ℕ) → nat_lt n 0 ≡ false
not-below-zero n = grind (arith, nat_tests)

-- The own block is not ahead of itself ..
no-ahead : (own : Block) (before after : List Block) → block_ahead own (before ++ own ∷ after) ≡ block_ahead own (before ++ after)
no-ahead own before after = find-without (λ b. nat_lt own.lver b.lver) own before after (not-below own.lver)

-- .. nor its own rival.
no-rival : (own : Block) (before after : List Block) → block_rival own (before ++ own ∷ after) ≡ block_rival own (before ++ after)
no-rival own before after = find-without (λ b. b.lver == own.lver && nat_lt own.mbal b.mbal) own before after (and_right (own.lver == own.lver) (nat_lt own.mbal own.mbal) (not-below own.mbal))

-- A block with no bal is not chosen.
no-bal : (from : Option Block) (b : Block) → b.bal ≡ 0 → greater_bal from b ≡ from
no-bal None b none = ap (λ n. choose (nat_lt 0 n) b) none
no-bal (Some a) b none = ap (λ n. cond (nat_lt a.bal n) (Some b) (Some a)) none ∙ ap (λ t. cond t (Some b) (Some a)) (not-below-zero a.bal)

fold-without : (n : ℕ) (b : Block) (before after : List Block) (from : Option Block) → b.bal ≡ 0
    → fold greater_bal from (in_instance n (before ++ b ∷ after)) ≡ fold greater_bal from (in_instance n (before ++ after))
fold-without n b [] after from none =
    elim (b.lver == n) as (λ t. fold greater_bal from (cond t (b ∷ in_instance n after) (in_instance n after)) ≡ fold greater_bal from (in_instance n after)) [
      | true ↦ ap (λ f. fold greater_bal f (in_instance n after)) (no-bal from b none)
      | false ↦ refl
    ]
fold-without n b (x ∷ xs) after from none =
    elim (x.lver == n) as (λ t. fold greater_bal from (cond t (x ∷ in_instance n (xs ++ b ∷ after)) (in_instance n (xs ++ b ∷ after))) ≡ fold greater_bal from (cond t (x ∷ in_instance n (xs ++ after)) (in_instance n (xs ++ after)))) [
      | true ↦ fold-without n b xs after (greater_bal from x) none
      | false ↦ fold-without n b xs after from none
    ]

pub stops_are_one : StopsAreOne
stops_are_one = record {
  clear = (λ own blocks next e. step-clear (block_ahead own blocks) (block_rival own blocks) next e);
  ahead = (λ own blocks next h l e. step-ahead (block_ahead own blocks) (block_rival own blocks) next h l e);
  rival = (λ own blocks next h m e. step-rival (block_ahead own blocks) (block_rival own blocks) next h m e);
  torn = (λ own blocks h e. step-torn (block_ahead own blocks) (block_rival own blocks) h e);
  own_stop = (λ own before after. ap₂ stop (no-ahead own before after) (no-rival own before after));
  own_step = (λ own before after next. ap₂ (λ a r. step a r next) (no-ahead own before after) (no-rival own before after));
  own_value = (λ self n own before after none. ap (λ r. option_map_or value_of r self) (fold-without n own before after None none));
}
