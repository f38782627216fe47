use Rattle.sl_due_law.proofs.Causes.LeavingsRefuse as its
use Rattle.sl_due_law.proofs.laws.causes.refused_at_lines.Goals as goal

pub returns : goal.returns
returns c = its.refused_at_lines
