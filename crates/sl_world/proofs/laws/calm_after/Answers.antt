use Rattle.sl_world.proofs.CalmLeft.{calm_after}
use Rattle.sl_world.proofs.laws.calm_after.Goals as goal

pub returns : goal.returns
returns c = calm_after
