use Rattle.sl_host_law.proofs.Answers.SurveysFollow as its
use Rattle.sl_host_law.proofs.laws.answers.surveys_follow.Goals as goal

pub returns : goal.returns
returns c = its.surveys_follow
