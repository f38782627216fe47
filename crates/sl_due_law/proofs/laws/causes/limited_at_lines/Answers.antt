use Rattle.sl_due_law.proofs.Causes.LimitedAtLines as its
use Rattle.sl_due_law.proofs.laws.causes.limited_at_lines.Goals as goal

pub returns : goal.returns
returns c = its.limited_at_lines
