use Rattle.sl_world.proofs.CalmLeft.{calm_before}
use Rattle.sl_world.proofs.laws.calm_before.Goals as goal

pub returns : goal.returns
returns c = calm_before
