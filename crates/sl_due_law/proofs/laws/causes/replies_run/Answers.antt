use Rattle.sl_due_law.proofs.Causes.RepliesRun as its
use Rattle.sl_due_law.proofs.laws.causes.replies_run.Goals as goal

pub returns : goal.returns
returns c = its.replies_run
