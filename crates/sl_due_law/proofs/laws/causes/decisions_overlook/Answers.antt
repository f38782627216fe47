use Rattle.sl_due_law.proofs.Causes.QuietMoves as its
use Rattle.sl_due_law.proofs.laws.causes.decisions_overlook.Goals as goal

pub returns : goal.returns
returns c = its.decisions_overlook
