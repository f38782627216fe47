-- A ballot from its begin to its end, on the blocks that its two reads gave.
use Rattle.sl_ballot.specs.Limits.{limited}
use Rattle.sl_alone.specs.declared.whole_ballot.BallotStep.TheVariants.{Ahead, Go, Lost, Rival, Won}
use Rattle.sl_alone.specs.declared.whole_ballot.BallotStep.{BallotStep}
use Rattle.sl_alone.specs.declared.whole_ballot.Phase.TheVariants.{Ended, Phase1Read, Phase1Write, Phase2Read, Phase2Write}
use Rattle.sl_alone.specs.declared.whole_ballot.Phase.{Phase}
use Rattle.sl_ballot.specs.declared.number.Limit.{Limit}
use Rattle.sl_trace.specs.Ballots.{block_ahead, block_rival, phase2_block, same_owner, value_of}
use Rattle.sl_sector.specs.declared.sector.Block.{Block}
use Rattle.sl_sector.specs.declared.sector.Owner.{Owner}
use Rattle.sl_words.specs.Bounds.{is_number}
use Rattle.std.specs.Prelude.{Bool, List, None, Result, Some, false, true}

-- A ballot: the session whose it is, its block, and what comes next.
pub record BallotState : Type 0 where
  pub self : Owner
  pub block : Block
  pub phase : Phase

-- A ballot of this block begins.
abbrev pub first_state : Owner → Block → BallotState
first_state self b = record { self = self; block = b; phase = Phase1Write }

-- A ballot begins, unless its number is past the limit.
abbrev pub begun : Owner → Block → Result BallotState Limit
begun self b = limited (is_number b.mbal) (first_state self b)

-- The block was written.
abbrev pub phase_written : Phase → Phase
phase_written Phase1Write = Phase1Read
phase_written Phase1Read = Phase1Read
phase_written Phase2Write = Phase2Read
phase_written Phase2Read = Phase2Read
phase_written Ended = Ended

-- Whether the blocks are to be read.
abbrev pub is_reading : Phase → Bool
is_reading Phase1Write = false
is_reading Phase1Read = true
is_reading Phase2Write = false
is_reading Phase2Read = true
is_reading Ended = false

-- A block of a later instance stops the ballot, else one with a greater number in its instance; else it goes on.
abbrev pub unless_stopped : Block → List Block → BallotStep → BallotStep
unless_stopped own blocks next =
    elim (block_ahead own blocks) [
      | Some b ↦ Ahead b.host b.lver
      | None ↦ elim (block_rival own blocks) [ Some b ↦ Rival b.host b.mbal | None ↦ next ]
    ]

-- A ballot that ends with this value is won where that is the session itself.
abbrev pub ends_with : Owner → Owner → BallotStep
ends_with self value = elim (same_owner value self) [ true ↦ Won | false ↦ Lost value ]

-- After the read of phase 1.
abbrev pub phase1_step : Owner → Block → List Block → BallotStep
phase1_step self own blocks = unless_stopped own blocks (Go (phase2_block self own blocks))

-- After the read of phase 2.
abbrev pub phase2_step : Owner → Block → List Block → BallotStep
phase2_step self own blocks = unless_stopped own blocks (ends_with self (value_of own))

-- After the read of phase 1, or else of phase 2.
abbrev pub step_in : Phase → Owner → Block → List Block → BallotStep
step_in Phase1Read self own blocks = phase1_step self own blocks
step_in phase self own blocks = phase2_step self own blocks

-- What a read says of a ballot.
abbrev pub step_of : BallotState → List Block → BallotStep
step_of s blocks = step_in s.phase s.self s.block blocks

-- The ballot after it.
abbrev pub after_step : BallotState → BallotStep → BallotState
after_step s (Go b) = record { self = s.self; block = b; phase = Phase2Write }
after_step s Won = record s { phase = Ended }
after_step s (Lost o) = record s { phase = Ended }
after_step s (Rival h m) = record s { phase = Ended }
after_step s (Ahead h l) = record s { phase = Ended }
