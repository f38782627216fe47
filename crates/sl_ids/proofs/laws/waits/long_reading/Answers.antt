use Rattle.sl_ids.proofs.Clocks.ClockLaws.{long}
use Rattle.sl_ids.proofs.laws.waits.long_reading.Goals as goal

pub returns : goal.returns
returns c = long
