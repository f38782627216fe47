use Rattle.sl_host_law.proofs.Answers.WakingsFollow as its
use Rattle.sl_host_law.proofs.laws.answers.wakings_follow.Goals as goal

pub returns : goal.returns
returns c = its.wakings_follow
