use Rattle.sl_examples.proofs.Ballots.TwoAliveHistory.{two_alive_break}
use Rattle.sl_examples.proofs.laws.ballots.two_alive_break.Goals as goal

pub returns : goal.returns
returns c = two_alive_break
