use Rattle.sl_step_law.proofs.MomentsAreKnown as its
use Rattle.sl_step_law.proofs.laws.moments_are_known.Goals as goal

pub returns : goal.returns
returns c = its.moments_are_known
