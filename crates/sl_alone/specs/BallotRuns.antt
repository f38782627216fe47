-- A whole ballot in one place: begin, write, read, write, read.
use Rattle.sl_alone.specs.WholeBallots.{phase2_step, unless_stopped}
use Rattle.sl_ballot.specs.Limits.{limited}
use Rattle.sl_alone.specs.declared.whole_ballot.BallotStep.{BallotStep}
use Rattle.sl_ballot.specs.declared.number.Limit.{Limit}
use Rattle.sl_trace.specs.Ballots.{phase1_block, phase2_block}
use Rattle.sl_sector.specs.declared.sector.Block.{Block}
use Rattle.sl_sector.specs.declared.sector.Owner.{Owner}
use Rattle.sl_words.specs.Bounds.{is_number}
use Rattle.std.specs.Prelude.{List, Result, ℕ}

-- From the block of phase 1 on, with the blocks of the first read and of the second.
abbrev pub run_from : Owner → Block → List Block → List Block → BallotStep
run_from self own first second = unless_stopped own first (phase2_step self (phase2_block self own first) second)

-- The ballot of a session among so many hosts in instance n, with the own block and the blocks seen before it.
abbrev pub ballot_run : Owner → ℕ → ℕ → Block → List Block → List Block → List Block → Result BallotStep Limit
ballot_run self hosts n own seen first second =
    let block : Block = phase1_block self hosts n own.shared own.mode_gen own seen in
    limited (is_number block.mbal) (run_from self block first second)
