use Rattle.sl_headline.proofs.Volumes.SameValue.SameIsUnchanged.{volumes_are_safe}
use Rattle.sl_headline.proofs.laws.volumes.volumes_are_safe.Goals as goal

pub returns : goal.returns
returns c = volumes_are_safe
