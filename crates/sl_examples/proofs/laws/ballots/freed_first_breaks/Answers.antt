use Rattle.sl_examples.proofs.Ballots.FreedFirstHistory.{freed_first_breaks}
use Rattle.sl_examples.proofs.laws.ballots.freed_first_breaks.Goals as goal

pub returns : goal.returns
returns c = freed_first_breaks
