use Rattle.sl_ballot_law.proofs.Pairs.MoveLaws.{block_changes}
use Rattle.sl_ballot_law.proofs.laws.pairs.block_changes.Goals as goal

pub returns : goal.returns
returns c = block_changes
