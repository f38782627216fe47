use Rattle.sl_headline.proofs.Volumes.OneVersion.{versions_are_known_once}
use Rattle.sl_headline.proofs.laws.volumes.versions_are_known_once.Goals as goal

pub returns : goal.returns
returns c = versions_are_known_once
