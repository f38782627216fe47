use Rattle.sl_due_law.proofs.Causes.DoneAtLines as its
use Rattle.sl_due_law.proofs.laws.causes.done_at_lines.Goals as goal

pub returns : goal.returns
returns c = its.done_at_lines
