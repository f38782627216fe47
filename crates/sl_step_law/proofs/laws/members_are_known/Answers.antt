use Rattle.sl_step_law.proofs.MembersAreKnown as its
use Rattle.sl_step_law.proofs.laws.members_are_known.Goals as goal

pub returns : goal.returns
returns c = its.members_are_known
