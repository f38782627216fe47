use Rattle.sl_world.proofs.LeftGrants.{conflicts_are_left}
use Rattle.sl_world.proofs.laws.conflicts_are_left.Goals as goal

pub returns : goal.returns
returns c = conflicts_are_left
