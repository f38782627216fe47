use Rattle.sl_host_law.proofs.Answers.RequestsFollow as its
use Rattle.sl_host_law.proofs.laws.answers.requests_follow.Goals as goal

pub returns : goal.returns
returns c = its.requests_follow
