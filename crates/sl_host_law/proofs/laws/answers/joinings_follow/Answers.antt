use Rattle.sl_host_law.proofs.Answers.JoiningsFollow as its
use Rattle.sl_host_law.proofs.laws.answers.joinings_follow.Goals as goal

pub returns : goal.returns
returns c = its.joinings_follow
