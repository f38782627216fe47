use Rattle.sl_step_law.proofs.StepsAreTaken as its
use Rattle.sl_step_law.proofs.laws.steps_are_taken.Goals as goal

pub returns : goal.returns
returns c = its.steps_are_taken
