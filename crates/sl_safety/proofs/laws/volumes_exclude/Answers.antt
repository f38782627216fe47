use Rattle.sl_safety.proofs.RunsAreSafe.{volumes_exclude}
use Rattle.sl_safety.proofs.laws.volumes_exclude.Goals as goal

pub returns : goal.returns
returns c = volumes_exclude
