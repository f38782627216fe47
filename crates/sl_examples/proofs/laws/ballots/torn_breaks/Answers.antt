use Rattle.sl_examples.proofs.Ballots.TornBlockHistory.{torn_breaks}
use Rattle.sl_examples.proofs.laws.ballots.torn_breaks.Goals as goal

pub returns : goal.returns
returns c = torn_breaks
