use Rattle.sl_host_law.proofs.Steps.LinesFollow.{lines_follow}
use Rattle.sl_host_law.proofs.laws.steps.lines_follow.Goals as goal

pub returns : goal.returns
returns c = lines_follow
