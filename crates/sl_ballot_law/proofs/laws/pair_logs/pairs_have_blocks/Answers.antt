use Rattle.sl_ballot_law.proofs.PairLogs.RegistersAreRead.{pairs_have_blocks}
use Rattle.sl_ballot_law.proofs.laws.pair_logs.pairs_have_blocks.Goals as goal

pub returns : goal.returns
returns c = pairs_have_blocks
