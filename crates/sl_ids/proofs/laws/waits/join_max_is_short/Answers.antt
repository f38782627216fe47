use Rattle.sl_ids.proofs.Clocks.ClockLaws.{join_max_short}
use Rattle.sl_ids.proofs.laws.waits.join_max_is_short.Goals as goal

pub returns : goal.returns
returns c = join_max_short
