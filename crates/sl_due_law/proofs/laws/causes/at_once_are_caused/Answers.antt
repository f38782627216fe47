use Rattle.sl_due_law.proofs.Causes.LimitedAtLines as its
use Rattle.sl_due_law.proofs.laws.causes.at_once_are_caused.Goals as goal

pub returns : goal.returns
returns c = its.at_once_are_caused
