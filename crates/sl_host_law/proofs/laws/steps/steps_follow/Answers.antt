use Rattle.sl_host_law.proofs.Steps.StepsFollow.{steps_follow}
use Rattle.sl_host_law.proofs.laws.steps.steps_follow.Goals as goal

pub returns : goal.returns
returns c = steps_follow
