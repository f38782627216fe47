-- Which step comes in which phase.
use Rattle.sl_alone.proofs.ReadOutcomes.{stopped_or_on}
use Rattle.sl_alone.specs.BallotLaws.{IsEndWith, IsStoppedBy, StepsFollowPhases}
use Rattle.sl_alone.specs.WholeBallots.{BallotState, after_step, ends_with, is_reading, phase1_step, phase2_step, step_in}
use Rattle.sl_alone.specs.declared.whole_ballot.BallotStep.TheVariants.{Ahead, Go, Lost, Rival, Won}
use Rattle.sl_alone.specs.declared.whole_ballot.BallotStep.{BallotStep}
use Rattle.sl_alone.specs.declared.whole_ballot.Phase.TheVariants.{Ended, Phase1Read, Phase1Write, Phase2Read, Phase2Write}
use Rattle.sl_alone.specs.declared.whole_ballot.Phase.{Phase}
use Rattle.sl_trace.specs.Ballots.{phase2_block, same_owner, value_of}
use Rattle.sl_sector.specs.declared.sector.Block.{Block}
use Rattle.sl_sector.specs.declared.sector.Owner.{Owner}
use Rattle.sl_words.proofs.CaseLaws.{true_is_false}
use Rattle.sl_words.proofs.WordLaws.{and_true}
use Rattle.std.proofs.Common.{Bool, List, ap, ap₂, false, inl, inr, refl, subst, true, ◌==◌, ◌∙◌, sym, ◌≡◌, ℕ}
use Rattle.std.proofs.lemmas.Bool.{and_from, eq-eqb, eqb-true}

-- Owners that pass as one, are one ..
same-is : (a b : Owner) → same_owner a b ≡ true → a ≡ b
same-is a b h =
    let both = and_true (a.id == b.id) (a.generation == b.generation) h in
    let make : ℕ → ℕ → Owner = λ id generation. record { id = id; generation = generation } in
    ap₂ make (eqb-true a.id b.id both.0) (eqb-true a.generation b.generation both.1)

-- .. and one passes as itself.
is-same : (a : Owner) → same_owner a a ≡ true
is-same a = and_from _ _ (eq-eqb a.id a.id refl) (eq-eqb a.generation a.generation refl)

-- How a ballot with this value ends.
by-same : (self value : Owner) (t : Bool) → same_owner value self ≡ t → IsEndWith self value (elim t [ true ↦ Won | false ↦ Lost value ])
by-same self value true is = inl (same-is value self is, refl)
by-same self value false is = inr (λ e. absurd (true_is_false (sym (ap (λ x. same_owner x self) e ∙ is-same self) ∙ is)), refl)

pub end_with : (self value : Owner) → IsEndWith self value (ends_with self value)
end_with self value = by-same self value (same_owner value self) refl

-- No stop is a block to write, nor an end.
stop-no-go : (own : Block) (blocks : List Block) (step : BallotStep) (b : Block) → IsStoppedBy own blocks step → step ≡ Go b → ⊥
stop-no-go own blocks step b (inl h) e = let f : step ≡ Ahead h.0.host h.0.lver = h.3 in absurd cc
stop-no-go own blocks step b (inr h) e = let f : step ≡ Rival h.1.0.host h.1.0.mbal = h.1.4 in absurd cc

stop-no-won : (own : Block) (blocks : List Block) (step : BallotStep) → IsStoppedBy own blocks step → step ≡ Won → ⊥
stop-no-won own blocks step (inl h) e = let f : step ≡ Ahead h.0.host h.0.lver = h.3 in absurd cc
stop-no-won own blocks step (inr h) e = let f : step ≡ Rival h.1.0.host h.1.0.mbal = h.1.4 in absurd cc

stop-no-lost : (own : Block) (blocks : List Block) (step : BallotStep) (v : Owner) → IsStoppedBy own blocks step → step ≡ Lost v → ⊥
stop-no-lost own blocks step v (inl h) e = let f : step ≡ Ahead h.0.host h.0.lver = h.3 in absurd cc
stop-no-lost own blocks step v (inr h) e = let f : step ≡ Rival h.1.0.host h.1.0.mbal = h.1.4 in absurd cc

-- An end is no block to write.
end-no-go : (self value : Owner) (step : BallotStep) (b : Block) → IsEndWith self value step → step ≡ Go b → ⊥
end-no-go self value step b (inl h) e = let f : step ≡ Won = h.1 in absurd cc
end-no-go self value step b (inr h) e = let f : step ≡ Lost value = h.1 in absurd cc

-- A block to write comes after the read of phase 1 alone.
first-go : (self : Owner) (own : Block) (blocks : List Block) (b : Block) → phase1_step self own blocks ≡ Go b → b ≡ phase2_block self own blocks
first-go self own blocks b e =
    elim (stopped_or_on own blocks (Go (phase2_block self own blocks))) [
      | inl h ↦ absurd (stop-no-go own blocks (phase1_step self own blocks) b h e)
      | inr h ↦ let f : phase1_step self own blocks ≡ Go (phase2_block self own blocks) = h.1 in cc
    ]

second-go : (self : Owner) (own : Block) (blocks : List Block) (b : Block) → phase2_step self own blocks ≡ Go b → ⊥
second-go self own blocks b e =
    elim (stopped_or_on own blocks (ends_with self (value_of own))) [
      | inl h ↦ stop-no-go own blocks (phase2_step self own blocks) b h e
      | inr h ↦ end-no-go self (value_of own) (ends_with self (value_of own)) b (end_with self (value_of own)) (sym h.1 ∙ e)
    ]

go-in : (phase : Phase) (self : Owner) (own : Block) (blocks : List Block) (b : Block) → step_in phase self own blocks ≡ Go b
    → (phase ≡ Phase1Read) × (b ≡ phase2_block self own blocks)
go-in Phase1Write self own blocks b e = absurd (second-go self own blocks b e)
go-in Phase1Read self own blocks b e = (refl, first-go self own blocks b e)
go-in Phase2Write self own blocks b e = absurd (second-go self own blocks b e)
go-in Phase2Read self own blocks b e = absurd (second-go self own blocks b e)
go-in Ended self own blocks b e = absurd (second-go self own blocks b e)

-- A ballot is won after the read of phase 2 alone ..
first-won : (self : Owner) (own : Block) (blocks : List Block) → phase1_step self own blocks ≡ Won → ⊥
first-won self own blocks e =
    elim (stopped_or_on own blocks (Go (phase2_block self own blocks))) [
      | inl h ↦ stop-no-won own blocks (phase1_step self own blocks) h e
      | inr h ↦ let f : phase1_step self own blocks ≡ Go (phase2_block self own blocks) = h.1 in absurd cc
    ]

won-with : (self value : Owner) (step : BallotStep) → IsEndWith self value step → step ≡ Won → value ≡ self
won-with self value step (inl h) e = h.0
won-with self value step (inr h) e = let f : step ≡ Lost value = h.1 in absurd cc

second-won : (self : Owner) (own : Block) (blocks : List Block) → phase2_step self own blocks ≡ Won → value_of own ≡ self
second-won self own blocks e =
    elim (stopped_or_on own blocks (ends_with self (value_of own))) [
      | inl h ↦ absurd (stop-no-won own blocks (phase2_step self own blocks) h e)
      | inr h ↦ won-with self (value_of own) (ends_with self (value_of own)) (end_with self (value_of own)) (sym h.1 ∙ e)
    ]

won-in : (phase : Phase) (self : Owner) (own : Block) (blocks : List Block) → is_reading phase ≡ true → step_in phase self own blocks ≡ Won
    → (phase ≡ Phase2Read) × (value_of own ≡ self)
won-in Phase1Write self own blocks reading e = absurd cc
won-in Phase1Read self own blocks reading e = absurd (first-won self own blocks e)
won-in Phase2Write self own blocks reading e = absurd cc
won-in Phase2Read self own blocks reading e = (refl, second-won self own blocks e)
won-in Ended self own blocks reading e = absurd cc

-- .. and so it is lost.
first-lost : (self : Owner) (own : Block) (blocks : List Block) (v : Owner) → phase1_step self own blocks ≡ Lost v → ⊥
first-lost self own blocks v e =
    elim (stopped_or_on own blocks (Go (phase2_block self own blocks))) [
      | inl h ↦ stop-no-lost own blocks (phase1_step self own blocks) v h e
      | inr h ↦ let f : phase1_step self own blocks ≡ Go (phase2_block self own blocks) = h.1 in absurd cc
    ]

lost-with : (self value : Owner) (step : BallotStep) (v : Owner) → IsEndWith self value step → step ≡ Lost v → (v ≡ value) × (value ≡ self → ⊥)
lost-with self value step v (inl h) e = let f : step ≡ Won = h.1 in absurd cc
lost-with self value step v (inr h) e = let f : step ≡ Lost value = h.1 in (cc, h.0)

second-lost : (self : Owner) (own : Block) (blocks : List Block) (v : Owner) → phase2_step self own blocks ≡ Lost v → (v ≡ value_of own) × (value_of own ≡ self → ⊥)
second-lost self own blocks v e =
    elim (stopped_or_on own blocks (ends_with self (value_of own))) [
      | inl h ↦ absurd (stop-no-lost own blocks (phase2_step self own blocks) v h e)
      | inr h ↦ lost-with self (value_of own) (ends_with self (value_of own)) v (end_with self (value_of own)) (sym h.1 ∙ e)
    ]

lost-in : (phase : Phase) (self : Owner) (own : Block) (blocks : List Block) (v : Owner) → is_reading phase ≡ true → step_in phase self own blocks ≡ Lost v
    → (phase ≡ Phase2Read) × (v ≡ value_of own) × (value_of own ≡ self → ⊥)
lost-in Phase1Write self own blocks v reading e = absurd cc
lost-in Phase1Read self own blocks v reading e = absurd (first-lost self own blocks v e)
lost-in Phase2Write self own blocks v reading e = absurd cc
lost-in Phase2Read self own blocks v reading e = let h = second-lost self own blocks v e in (refl, h.0, h.1)
lost-in Ended self own blocks v reading e = absurd cc

-- Two blocks of one instance and one number.
abbrev IsSameBallot : Block → Block → Type 0
IsSameBallot own b = (b.lver ≡ own.lver) × (b.mbal ≡ own.mbal)

-- Phase 2 goes on with those of phase 1.
second-same : (self : Owner) (own : Block) (blocks : List Block) → IsSameBallot own (phase2_block self own blocks)
unfolding phase2_block
second-same self own blocks = (refl, refl)

-- So does each step.
step-same : (s : BallotState) (blocks : List Block) (step : BallotStep) → step_in s.phase s.self s.block blocks ≡ step → IsSameBallot s.block (after_step s step).block
step-same s blocks (Go b) e = subst (IsSameBallot s.block) (sym (go-in s.phase s.self s.block blocks b e).1) (second-same s.self s.block blocks)
step-same s blocks Won e = (refl, refl)
step-same s blocks (Lost o) e = (refl, refl)
step-same s blocks (Rival h m) e = (refl, refl)
step-same s blocks (Ahead h l) e = (refl, refl)

pub steps_follow_phases : StepsFollowPhases
steps_follow_phases = record {
  go = (λ s blocks b e. go-in s.phase s.self s.block blocks b e);
  won = (λ s blocks reading e. won-in s.phase s.self s.block blocks reading e);
  lost = (λ s blocks v reading e. lost-in s.phase s.self s.block blocks v reading e);
  stays = (λ s blocks. step-same s blocks (step_in s.phase s.self s.block blocks) refl);
}
