use Rattle.sl_host_law.proofs.Questions.AnswersAreTheirs as its
use Rattle.sl_host_law.proofs.laws.questions.answers_are_theirs.Goals as goal

pub returns : goal.returns
returns c = its.answers_are_theirs
