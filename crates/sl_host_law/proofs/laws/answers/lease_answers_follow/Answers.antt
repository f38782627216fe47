use Rattle.sl_host_law.proofs.Answers.LeaseAnswersFollow as its
use Rattle.sl_host_law.proofs.laws.answers.lease_answers_follow.Goals as goal

pub returns : goal.returns
returns c = its.lease_answers_follow
