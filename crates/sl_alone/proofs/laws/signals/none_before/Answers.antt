use Rattle.sl_alone.proofs.SignalLaws.{none_before}
use Rattle.sl_alone.proofs.laws.signals.none_before.Goals as goal

pub returns : goal.returns
returns c = none_before
