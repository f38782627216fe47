use Rattle.sl_step_law.proofs.LinesMay as its
use Rattle.sl_step_law.proofs.laws.lines_may.Goals as goal

pub returns : goal.returns
returns c = its.lines_may
