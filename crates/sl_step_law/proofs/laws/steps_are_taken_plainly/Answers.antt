use Rattle.sl_step_law.proofs.LastValues.{steps_are_taken_plainly}
use Rattle.sl_step_law.proofs.laws.steps_are_taken_plainly.Goals as goal

pub returns : goal.returns
returns c = steps_are_taken_plainly
