use Rattle.sl_alone.proofs.SignalLaws.{each_once}
use Rattle.sl_alone.proofs.laws.signals.each_once.Goals as goal

pub returns : goal.returns
returns c = each_once
