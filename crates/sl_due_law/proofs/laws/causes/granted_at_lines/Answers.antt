use Rattle.sl_due_law.proofs.Causes.GrantedAtLines as its
use Rattle.sl_due_law.proofs.laws.causes.granted_at_lines.Goals as goal

pub returns : goal.returns
returns c = its.granted_at_lines
