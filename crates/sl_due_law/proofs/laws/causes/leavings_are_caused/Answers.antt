use Rattle.sl_due_law.proofs.Causes.PlainCauses as its
use Rattle.sl_due_law.proofs.laws.causes.leavings_are_caused.Goals as goal

pub returns : goal.returns
returns c = its.done_caused
