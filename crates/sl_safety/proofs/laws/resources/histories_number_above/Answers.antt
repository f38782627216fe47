use Rattle.sl_safety.proofs.Resources.NumbersAboveZero.{number_above}
use Rattle.sl_safety.proofs.laws.resources.histories_number_above.Goals as goal

pub returns : goal.returns
returns c = number_above
