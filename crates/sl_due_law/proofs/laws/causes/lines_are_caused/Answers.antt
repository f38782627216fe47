use Rattle.sl_due_law.proofs.Causes.LineCauses as its
use Rattle.sl_due_law.proofs.laws.causes.lines_are_caused.Goals as goal

pub returns : goal.returns
returns c = its.lines_are_caused
