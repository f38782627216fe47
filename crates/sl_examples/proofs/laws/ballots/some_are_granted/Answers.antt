use Rattle.sl_examples.proofs.Ballots.TwoGrantsHistory.{some_are_granted}
use Rattle.sl_examples.proofs.laws.ballots.some_are_granted.Goals as goal

pub returns : goal.returns
returns c = some_are_granted
