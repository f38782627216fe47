use Rattle.sl_alone.proofs.SignalLaws.{only_holders}
use Rattle.sl_alone.proofs.laws.signals.only_holders.Goals as goal

pub returns : goal.returns
returns c = only_holders
