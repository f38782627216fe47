use Rattle.sl_host_law.proofs.Answers.AnswersSetFree as its
use Rattle.sl_host_law.proofs.laws.answers.answers_set_free.Goals as goal

pub returns : goal.returns
returns c = its.answers_set_free
