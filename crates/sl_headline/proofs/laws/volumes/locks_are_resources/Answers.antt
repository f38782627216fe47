use Rattle.sl_headline.proofs.Volumes.LocksAreResources.{locks_are_resources}
use Rattle.sl_headline.proofs.laws.volumes.locks_are_resources.Goals as goal

pub returns : goal.returns
returns c = locks_are_resources
