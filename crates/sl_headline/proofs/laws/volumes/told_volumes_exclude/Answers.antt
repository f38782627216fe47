use Rattle.sl_headline.proofs.Volumes.ToldVolumes.{told_volumes_exclude}
use Rattle.sl_headline.proofs.laws.volumes.told_volumes_exclude.Goals as goal

pub returns : goal.returns
returns c = told_volumes_exclude
