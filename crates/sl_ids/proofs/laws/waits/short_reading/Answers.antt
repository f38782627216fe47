use Rattle.sl_ids.proofs.Clocks.ClockLaws.{short}
use Rattle.sl_ids.proofs.laws.waits.short_reading.Goals as goal

pub returns : goal.returns
returns c = short
