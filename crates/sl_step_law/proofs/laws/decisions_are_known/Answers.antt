use Rattle.sl_step_law.proofs.DecisionsAreKnown as its
use Rattle.sl_step_law.proofs.laws.decisions_are_known.Goals as goal

pub returns : goal.returns
returns c = its.decisions_are_known
