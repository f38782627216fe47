use Rattle.sl_step_law.proofs.DueFollows as its
use Rattle.sl_step_law.proofs.laws.inputs_come.Goals as goal

pub returns : goal.returns
returns c = its.inputs_come
