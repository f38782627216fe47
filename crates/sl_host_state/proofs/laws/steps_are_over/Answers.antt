use Rattle.sl_host_state.proofs.StepsAreOver as its
use Rattle.sl_host_state.proofs.laws.steps_are_over.Goals as goal

pub returns : goal.returns
returns c = its.steps_are_over
