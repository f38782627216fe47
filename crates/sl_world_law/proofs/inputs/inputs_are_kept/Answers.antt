use Rattle.sl_world_law.proofs.GivenInputs.{inputs_are_kept}
use Rattle.sl_world_law.proofs.inputs.inputs_are_kept.Goals as goal

pub returns : goal.returns
returns c = inputs_are_kept
