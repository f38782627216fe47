use Rattle.sl_step_law.proofs.LastValues.{lines_may_plainly}
use Rattle.sl_step_law.proofs.laws.lines_may_plainly.Goals as goal

pub returns : goal.returns
returns c = lines_may_plainly
