use Rattle.sl_alone.proofs.SignalLaws.{left_are_there}
use Rattle.sl_alone.proofs.laws.signals.left_are_there.Goals as goal

pub returns : goal.returns
returns c = left_are_there
