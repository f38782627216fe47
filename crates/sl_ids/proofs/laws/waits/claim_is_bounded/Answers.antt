use Rattle.sl_ids.proofs.Clocks.WatchdogLaws.{claim}
use Rattle.sl_ids.proofs.laws.waits.claim_is_bounded.Goals as goal

pub returns : goal.returns
returns c = claim
