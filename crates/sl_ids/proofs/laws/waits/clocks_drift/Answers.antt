use Rattle.sl_ids.proofs.Clocks.ClockLaws.{clocks_drift}
use Rattle.sl_ids.proofs.laws.waits.clocks_drift.Goals as goal

pub returns : goal.returns
returns c = clocks_drift
