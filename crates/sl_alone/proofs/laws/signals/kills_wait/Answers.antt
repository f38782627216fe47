use Rattle.sl_alone.proofs.SignalLaws.{kills_wait}
use Rattle.sl_alone.proofs.laws.signals.kills_wait.Goals as goal

pub returns : goal.returns
returns c = kills_wait
