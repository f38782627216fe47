use Rattle.sl_due_law.proofs.Causes.CausesAreKept as its
use Rattle.sl_due_law.proofs.laws.causes.causes_begin.Goals as goal

pub returns : goal.returns
returns c = its.causes_begin
