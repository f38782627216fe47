use Rattle.sl_alone.proofs.SignalLaws.{all_told}
use Rattle.sl_alone.proofs.laws.signals.all_told.Goals as goal

pub returns : goal.returns
returns c = all_told
