use Rattle.sl_step_law.proofs.DueFollows as its
use Rattle.sl_step_law.proofs.laws.due_follows.Goals as goal

pub returns : goal.returns
returns c = its.due_follows
