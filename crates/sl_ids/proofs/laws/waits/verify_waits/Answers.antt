use Rattle.sl_ids.proofs.Clocks.WatchdogLaws.{verify}
use Rattle.sl_ids.proofs.laws.waits.verify_waits.Goals as goal

pub returns : goal.returns
returns c = verify
