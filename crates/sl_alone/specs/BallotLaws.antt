-- How a ballot is stopped, goes and ends, in words that don't follow its steps.
use Rattle.sl_alone.specs.WholeBallots.{BallotState, after_step, is_reading, step_of, unless_stopped}
use Rattle.sl_alone.specs.BallotRuns.{ballot_run}
use Rattle.sl_alone.specs.declared.whole_ballot.BallotStep.TheVariants.{Ahead, Go, Lost, Rival, Won}
use Rattle.sl_alone.specs.declared.whole_ballot.BallotStep.{BallotStep}
use Rattle.sl_alone.specs.declared.whole_ballot.Phase.TheVariants.{Phase1Read, Phase2Read}
use Rattle.sl_trace.specs.Ballots.{phase1_block, phase2_block, stop_among, value_of, value_to_write}
use Rattle.sl_trace.specs.declared.lease.Stop.TheVariants.{BlockAhead, BlockRival, BlockTorn}
use Rattle.sl_sector.specs.declared.sector.Block.{Block}
use Rattle.sl_sector.specs.declared.sector.Owner.{Owner}
use Rattle.sl_words.specs.Bounds.{record_numbers}
use Rattle.std.specs.Prelude.{All, Contains, Err, List, None, Ok, Some, true, ℕ, ◌++◌, ◌+◌, ◌<◌, ◌∷◌, ◌≡◌, ◌≤◌, ◌⊎◌, ◌↔◌}

-- ---- stops

-- A block that stops no ballot of this own block: it is of no later instance, and has no greater number in the same one.
pub record Passes (own b : Block) : Type 0 where
  pub no_later : b.lver ≤ own.lver
  pub no_greater : b.lver ≡ own.lver → b.mbal ≤ own.mbal

-- A block of a later instance is among them, and the step names it.
abbrev pub IsAheadAmong : Block → List Block → BallotStep → Type 0
IsAheadAmong own blocks step = (b : Block) × Contains blocks b × (own.lver < b.lver) × (step ≡ Ahead b.host b.lver)

-- No block is of a later instance, but one with a greater number in the same one is among them, and the step names it.
abbrev pub IsRivalAmong : Block → List Block → BallotStep → Type 0
IsRivalAmong own blocks step =
    All (λ b. b.lver ≤ own.lver) blocks × ((b : Block) × Contains blocks b × (b.lver ≡ own.lver) × (own.mbal < b.mbal) × (step ≡ Rival b.host b.mbal))

-- The step says that these blocks stop the ballot.
abbrev pub IsStoppedBy : Block → List Block → BallotStep → Type 0
IsStoppedBy own blocks step = IsAheadAmong own blocks step ⊎ IsRivalAmong own blocks step

-- The machine's stops are those that a read has; they name no torn block. An own block among the others is no stop, and where it has no
-- bal it changes no value.
pub record StopsAreOne : Type 0 where
  pub clear : (own : Block) (blocks : List Block) (next : BallotStep) → stop_among own blocks ≡ None → unless_stopped own blocks next ≡ next
  pub ahead : (own : Block) (blocks : List Block) (next : BallotStep) (h l : ℕ) → stop_among own blocks ≡ Some (BlockAhead h l) → unless_stopped own blocks next ≡ Ahead h l
  pub rival : (own : Block) (blocks : List Block) (next : BallotStep) (h m : ℕ) → stop_among own blocks ≡ Some (BlockRival h m) → unless_stopped own blocks next ≡ Rival h m
  pub torn : (own : Block) (blocks : List Block) (h : ℕ) → stop_among own blocks ≡ Some (BlockTorn h) → ⊥
  pub own_stop : (own : Block) (before after : List Block) → stop_among own (before ++ own ∷ after) ≡ stop_among own (before ++ after)
  pub own_step : (own : Block) (before after : List Block) (next : BallotStep) → unless_stopped own (before ++ own ∷ after) next ≡ unless_stopped own (before ++ after) next
  pub own_value : (self : Owner) (n : ℕ) (own : Block) (before after : List Block) → own.bal ≡ 0 → value_to_write self n (before ++ own ∷ after) ≡ value_to_write self n (before ++ after)

-- ---- steps

-- A ballot with this value is won where the value is the session, and lost to it else.
abbrev pub IsEndWith : Owner → Owner → BallotStep → Type 0
IsEndWith self value step = ((value ≡ self) × (step ≡ Won)) ⊎ ((value ≡ self → ⊥) × (step ≡ Lost value))

-- Only a read of phase 1 gives a block to write, which is that of phase 2; only a read of phase 2 ends a ballot with its value. A ballot
-- keeps its instance and its number.
pub record StepsFollowPhases : Type 0 where
  pub go : (s : BallotState) (blocks : List Block) (b : Block) → step_of s blocks ≡ Go b → (s.phase ≡ Phase1Read) × (b ≡ phase2_block s.self s.block blocks)
  pub won : (s : BallotState) (blocks : List Block) → is_reading s.phase ≡ true → step_of s blocks ≡ Won → (s.phase ≡ Phase2Read) × (value_of s.block ≡ s.self)
  pub lost : (s : BallotState) (blocks : List Block) (v : Owner) → is_reading s.phase ≡ true → step_of s blocks ≡ Lost v
      → (s.phase ≡ Phase2Read) × (v ≡ value_of s.block) × (value_of s.block ≡ s.self → ⊥)
  pub stays : (s : BallotState) (blocks : List Block)
      → ((after_step s (step_of s blocks)).block.lver ≡ s.block.lver) × ((after_step s (step_of s blocks)).block.mbal ≡ s.block.mbal)

-- ---- whole ballots

-- How a ballot of this block of phase 1 ends: it is stopped by the first read or, where that lets it pass, by the second; else it ends
-- with the value that the first read told to write.
abbrev pub IsRunEnd : Owner → Block → List Block → List Block → BallotStep → Type 0
IsRunEnd self own first second step =
    IsStoppedBy own first step
    ⊎ (All (Passes own) first × (IsStoppedBy own second step ⊎ (All (Passes own) second × IsEndWith self (value_to_write self own.lver first) step)))

-- A ballot has no number exactly where it would be 2^63 or more; else it comes to one of these ends.
pub record RunsEnd : Type 0 where
  pub limit : (self : Owner) (hosts n : ℕ) (own : Block) (seen first second : List Block)
      → (ballot_run self hosts n own seen first second ≡ Err (record {})) ↔ (record_numbers ≤ (phase1_block self hosts n own.shared own.mode_gen own seen).mbal)
  pub ends : (self : Owner) (hosts n : ℕ) (own : Block) (seen first second : List Block) (step : BallotStep)
      → ballot_run self hosts n own seen first second ≡ Ok step
      → IsRunEnd self (phase1_block self hosts n own.shared own.mode_gen own seen) first second step
