use Rattle.sl_ids.proofs.Clocks.WatchdogLaws.{connection}
use Rattle.sl_ids.proofs.laws.waits.connection_is_bounded.Goals as goal

pub returns : goal.returns
returns c = connection
