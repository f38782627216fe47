use Rattle.sl_world_law.proofs.ComingInputs.{inputs_may_come}
use Rattle.sl_world_law.proofs.sanity.inputs_may_come.Goals as goal

pub returns : goal.returns
returns c = inputs_may_come
