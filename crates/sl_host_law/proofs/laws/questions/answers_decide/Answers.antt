use Rattle.sl_host_law.proofs.Questions.AnswersDecide as its
use Rattle.sl_host_law.proofs.laws.questions.answers_decide.Goals as goal

pub returns : goal.returns
returns c = its.answers_decide
