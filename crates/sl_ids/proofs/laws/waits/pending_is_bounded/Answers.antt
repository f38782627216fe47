use Rattle.sl_ids.proofs.Clocks.WatchdogLaws.{pending}
use Rattle.sl_ids.proofs.laws.waits.pending_is_bounded.Goals as goal

pub returns : goal.returns
returns c = pending
