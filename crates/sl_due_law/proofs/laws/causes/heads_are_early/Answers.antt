use Rattle.sl_due_law.proofs.Causes.HeadsAreEarly as its
use Rattle.sl_due_law.proofs.laws.causes.heads_are_early.Goals as goal

pub returns : goal.returns
returns c = its.heads_are_early
