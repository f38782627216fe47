use Rattle.sl_due_law.proofs.Causes.CauseFactsHold as its
use Rattle.sl_due_law.proofs.laws.causes.causes_stand.Goals as goal

pub returns : goal.returns
returns c = its.traces_stand
