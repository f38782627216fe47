use Rattle.sl_world_law.proofs.StepsAreKept.{own_is_kept}
use Rattle.sl_world_law.proofs.steps.own_is_kept.Goals as goal

pub returns : goal.returns
returns c = own_is_kept
