use Rattle.sl_examples.proofs.Ballots.EarlyLookHistory.{early_look_breaks}
use Rattle.sl_examples.proofs.laws.ballots.early_look_breaks.Goals as goal

pub returns : goal.returns
returns c = early_look_breaks
