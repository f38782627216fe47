use Rattle.sl_due_law.proofs.Causes.AnswersAreWell as its
use Rattle.sl_due_law.proofs.laws.causes.traces_are_caused.Goals as goal

pub returns : goal.returns
returns c = its.traces_are_caused
