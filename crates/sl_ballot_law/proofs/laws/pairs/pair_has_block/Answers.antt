use Rattle.sl_ballot_law.proofs.Pairs.StepLaws.{has_blocks}
use Rattle.sl_ballot_law.proofs.laws.pairs.pair_has_block.Goals as goal

pub returns : goal.returns
returns c = has_blocks
