use Rattle.sl_ballot_law.proofs.BlockLaws.{blocks_grow}
use Rattle.sl_ballot_law.proofs.laws.blocks_grow.Goals as goal

pub returns : goal.returns
returns c = blocks_grow
