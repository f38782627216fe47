use Rattle.sl_step_law.proofs.LastValues.{last_values_are_enough}
use Rattle.sl_step_law.proofs.laws.last_values_are_enough.Goals as goal

pub returns : goal.returns
returns c = last_values_are_enough
