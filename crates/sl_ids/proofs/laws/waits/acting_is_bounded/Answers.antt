use Rattle.sl_ids.proofs.Clocks.WatchdogLaws.{acting}
use Rattle.sl_ids.proofs.laws.waits.acting_is_bounded.Goals as goal

pub returns : goal.returns
returns c = acting
