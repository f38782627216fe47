use Rattle.sl_alone.proofs.SignalLaws.{in_order}
use Rattle.sl_alone.proofs.laws.signals.in_order.Goals as goal

pub returns : goal.returns
returns c = in_order
