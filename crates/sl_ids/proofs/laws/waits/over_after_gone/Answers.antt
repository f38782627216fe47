use Rattle.sl_ids.proofs.Clocks.WatchdogLaws.{over_after}
use Rattle.sl_ids.proofs.laws.waits.over_after_gone.Goals as goal

pub returns : goal.returns
returns c = over_after
