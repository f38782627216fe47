use Rattle.sl_world_law.proofs.GivenInputs.{own_effects_are_kept}
use Rattle.sl_world_law.proofs.inputs.own_effects_are_kept.Goals as goal

pub returns : goal.returns
returns c = own_effects_are_kept
