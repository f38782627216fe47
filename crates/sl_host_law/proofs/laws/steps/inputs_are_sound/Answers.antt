use Rattle.sl_host_law.proofs.Steps.InputsFollow.{inputs_are_sound}
use Rattle.sl_host_law.proofs.laws.steps.inputs_are_sound.Goals as goal

pub returns : goal.returns
returns c = inputs_are_sound
