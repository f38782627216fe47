use Rattle.sl_host_law.proofs.Steps.EndingsFollow.{endings_follow}
use Rattle.sl_host_law.proofs.laws.steps.endings_follow.Goals as goal

pub returns : goal.returns
returns c = endings_follow
