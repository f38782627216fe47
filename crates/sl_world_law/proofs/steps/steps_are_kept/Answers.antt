use Rattle.sl_world_law.proofs.StepsAreKept.{steps_are_kept}
use Rattle.sl_world_law.proofs.steps.steps_are_kept.Goals as goal

pub returns : goal.returns
returns c = steps_are_kept
