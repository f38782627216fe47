use Rattle.sl_step_law.proofs.CallsAreStanding as its
use Rattle.sl_step_law.proofs.laws.calls_are_standing.Goals as goal

pub returns : goal.returns
returns c = its.calls_are_standing
