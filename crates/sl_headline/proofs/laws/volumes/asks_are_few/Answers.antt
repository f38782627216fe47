use Rattle.sl_headline.proofs.Volumes.MachineLocks.{asks_are_few}
use Rattle.sl_headline.proofs.laws.volumes.asks_are_few.Goals as goal

pub returns : goal.returns
returns c = asks_are_few
