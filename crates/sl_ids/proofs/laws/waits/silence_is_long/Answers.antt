use Rattle.sl_ids.proofs.Clocks.WatchdogLaws.{silence}
use Rattle.sl_ids.proofs.laws.waits.silence_is_long.Goals as goal

pub returns : goal.returns
returns c = silence
