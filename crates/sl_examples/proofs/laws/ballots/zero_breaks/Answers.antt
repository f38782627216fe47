use Rattle.sl_examples.proofs.Ballots.NumberZeroHistory.{zero_breaks}
use Rattle.sl_examples.proofs.laws.ballots.zero_breaks.Goals as goal

pub returns : goal.returns
returns c = zero_breaks
