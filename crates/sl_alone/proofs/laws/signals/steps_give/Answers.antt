use Rattle.sl_alone.proofs.SignalLaws.{steps_give}
use Rattle.sl_alone.proofs.laws.signals.steps_give.Goals as goal

pub returns : goal.returns
returns c = steps_give
