use Rattle.sl_due_law.proofs.Causes.LinesAreWell as its
use Rattle.sl_due_law.proofs.laws.causes.lines_are_well.Goals as goal

pub returns : goal.returns
returns c = its.lines_are_well
