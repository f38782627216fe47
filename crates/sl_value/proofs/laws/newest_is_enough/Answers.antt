use Rattle.sl_value.proofs.VersionFacts.{newest_is_enough}
use Rattle.sl_value.proofs.laws.newest_is_enough.Goals as goal

pub returns : goal.returns
returns c = newest_is_enough
