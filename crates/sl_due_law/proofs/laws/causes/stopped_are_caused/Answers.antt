use Rattle.sl_due_law.proofs.Causes.LineAnswers as its
use Rattle.sl_due_law.proofs.laws.causes.stopped_are_caused.Goals as goal

pub returns : goal.returns
returns c = its.stopped_are_caused
