use Rattle.sl_host_law.proofs.Answers.AnswersFollow as its
use Rattle.sl_host_law.proofs.laws.answers.answers_follow.Goals as goal

pub returns : goal.returns
returns c = its.answers_follow
