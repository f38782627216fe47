use Rattle.sl_due_law.proofs.Causes.HeadsAreEarly as its
use Rattle.sl_due_law.proofs.laws.causes.last_is_silent.Goals as goal

pub returns : goal.returns
returns c = its.last_is_silent
