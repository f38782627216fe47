use Rattle.sl_headline.proofs.Volumes.SameValue.SameIsUnchanged.{volumes_are_safe_when_due}
use Rattle.sl_headline.proofs.laws.volumes.volumes_are_safe_when_due.Goals as goal

pub returns : goal.returns
returns c = volumes_are_safe_when_due
