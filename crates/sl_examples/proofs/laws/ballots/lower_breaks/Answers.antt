use Rattle.sl_examples.proofs.Ballots.OlderInstanceHistory.{lower_breaks}
use Rattle.sl_examples.proofs.laws.ballots.lower_breaks.Goals as goal

pub returns : goal.returns
returns c = lower_breaks
