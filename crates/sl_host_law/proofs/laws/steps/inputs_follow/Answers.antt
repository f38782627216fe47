use Rattle.sl_host_law.proofs.Steps.InputsFollow.{inputs_follow}
use Rattle.sl_host_law.proofs.laws.steps.inputs_follow.Goals as goal

pub returns : goal.returns
returns c = inputs_follow
