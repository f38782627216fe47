use Rattle.sl_ids.proofs.Clocks.WatchdogLaws.{watch}
use Rattle.sl_ids.proofs.laws.waits.watch_waits.Goals as goal

pub returns : goal.returns
returns c = watch
