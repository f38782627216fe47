-- How a whole ballot ends.
use Rattle.sl_alone.proofs.ReadOutcomes.{stopped_or_on}
use Rattle.sl_alone.proofs.BallotSteps.{end_with}
use Rattle.sl_alone.specs.BallotLaws.{IsEndWith, IsRunEnd, IsStoppedBy, Passes, RunsEnd}
use Rattle.sl_ballot.specs.Limits.{limited}
use Rattle.sl_alone.specs.WholeBallots.{ends_with, phase2_step}
use Rattle.sl_alone.specs.BallotRuns.{run_from}
use Rattle.sl_alone.specs.declared.whole_ballot.BallotStep.{BallotStep}
use Rattle.sl_trace.specs.Ballots.{phase1_block, phase2_block, value_of, value_to_write}
use Rattle.sl_sector.specs.declared.sector.Block.{Block}
use Rattle.sl_sector.specs.declared.sector.Owner.{Owner}
use Rattle.sl_words.specs.Bounds.{is_number, record_numbers}
use Rattle.std.proofs.Common.{All, Bool, Err, List, Ok, arith, false, inl, inr, nat_lt, refl, subst, sym, true, ◌<◌, ◌∙◌, ◌≡◌, ◌≤◌, ◌⊎◌, ◌↔◌, ℕ}
use Rattle.std.proofs.lemmas.Bool.{ltb-false, ltb-true}
use Rattle.std.proofs.lemmas.List.Elements.{All-weaker}

-- Nothing is given exactly where the number is past the limit.
limit-by : {A : Type 0} (m : ℕ) (x : A) (t : Bool) → nat_lt m record_numbers ≡ t → (limited t x ≡ Err (record {})) ↔ (record_numbers ≤ m)
limit-by m x true is = ((λ e. absurd cc), (λ le. absurd (let lt : m < record_numbers = ltb-true m record_numbers is in omega arith)))
limit-by m x false is = ((λ e. ltb-false m record_numbers is), (λ le. refl))

-- What is given.
given-by : {A : Type 0} (t : Bool) (x y : A) → limited t x ≡ Ok y → x ≡ y
given-by true x y e = cc
given-by false x y e = absurd cc

-- The block of phase 2 has the instance and the number of phase 1 ..
passes-second : (self : Owner) (own : Block) (first : List Block) (b : Block) → Passes (phase2_block self own first) b → Passes own b
unfolding phase2_block
passes-second self own first b h = record { no_later = h.no_later; no_greater = h.no_greater }

stopped-second : (self : Owner) (own : Block) (first second : List Block) (step : BallotStep) → IsStoppedBy (phase2_block self own first) second step → IsStoppedBy own second step
unfolding phase2_block
stopped-second self own first second step h = h

-- .. and the value of the greatest bal.
value-second : (self : Owner) (own : Block) (first : List Block) → value_of (phase2_block self own first) ≡ value_to_write self own.lver first
unfolding phase2_block
value-second self own first = refl

-- From the second read on.
second-ends : (self : Owner) (own : Block) (first second : List Block) (step : BallotStep) → phase2_step self (phase2_block self own first) second ≡ step
    → IsStoppedBy own second step ⊎ (All (Passes own) second × IsEndWith self (value_to_write self own.lver first) step)
second-ends self own first second step e =
    let block : Block = phase2_block self own first in
    elim (stopped_or_on block second (ends_with self (value_of block))) [
      | inl h ↦ inl (stopped-second self own first second step (subst (IsStoppedBy block second) e h))
      | inr h ↦ inr (
        All-weaker (Passes block) (Passes own) (passes-second self own first) second h.0,
        (let P : Owner → Type 0 = λ v. IsEndWith self v step in
            subst P (value-second self own first) (subst (IsEndWith self (value_of block)) (sym h.1 ∙ e) (end_with self (value_of block)))),
      )
    ]

-- From the first on.
run-ends : (self : Owner) (own : Block) (first second : List Block) (step : BallotStep) → run_from self own first second ≡ step → IsRunEnd self own first second step
run-ends self own first second step e =
    elim (stopped_or_on own first (phase2_step self (phase2_block self own first) second)) [
      | inl h ↦ inl (subst (IsStoppedBy own first) e h)
      | inr h ↦ inr (h.0, second-ends self own first second step (sym h.1 ∙ e))
    ]

pub runs_end : RunsEnd
runs_end = record {
  limit = (λ self hosts n own seen first second.
      let block : Block = phase1_block self hosts n own.shared own.mode_gen own seen in
      limit-by block.mbal (run_from self block first second) (is_number block.mbal) refl);
  ends = (λ self hosts n own seen first second step e.
      let block : Block = phase1_block self hosts n own.shared own.mode_gen own seen in
      run-ends self block first second step (given-by (is_number block.mbal) (run_from self block first second) step e));
}
