use Rattle.sl_step_law.proofs.MembersAreKnown as its
use Rattle.sl_step_law.proofs.laws.steps_are_kept.Goals as goal

pub returns : goal.returns
returns c = its.steps_are_kept
