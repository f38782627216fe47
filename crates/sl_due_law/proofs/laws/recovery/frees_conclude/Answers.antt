use Rattle.sl_due_law.proofs.Recovery.FreesConclude as its
use Rattle.sl_due_law.proofs.laws.recovery.frees_conclude.Goals as goal

pub returns : goal.returns
returns c = its.frees_conclude
