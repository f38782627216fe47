use Rattle.sl_host_law.proofs.Answers.RefusalsFollow as its
use Rattle.sl_host_law.proofs.laws.answers.refusals_follow.Goals as goal

pub returns : goal.returns
returns c = its.refusals_follow
