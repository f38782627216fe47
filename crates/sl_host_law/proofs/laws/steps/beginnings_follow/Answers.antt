use Rattle.sl_host_law.proofs.Steps.BeginningsFollow.{beginnings_follow}
use Rattle.sl_host_law.proofs.laws.steps.beginnings_follow.Goals as goal

pub returns : goal.returns
returns c = beginnings_follow
