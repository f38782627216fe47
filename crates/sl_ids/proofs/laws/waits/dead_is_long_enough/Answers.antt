use Rattle.sl_ids.proofs.Clocks.ClockLaws.{dead_long}
use Rattle.sl_ids.proofs.laws.waits.dead_is_long_enough.Goals as goal

pub returns : goal.returns
returns c = dead_long
