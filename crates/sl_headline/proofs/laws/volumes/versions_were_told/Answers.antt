use Rattle.sl_headline.proofs.Volumes.VersionsWereTold.{versions_were_told}
use Rattle.sl_headline.proofs.laws.volumes.versions_were_told.Goals as goal

pub returns : goal.returns
returns c = versions_were_told
