use Rattle.sl_ids.proofs.Clocks.ClockLaws.{take_over_long}
use Rattle.sl_ids.proofs.laws.waits.take_over_is_long_enough.Goals as goal

pub returns : goal.returns
returns c = take_over_long
