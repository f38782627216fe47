use Rattle.sl_host_law.proofs.StepParts.MembersWake as its
use Rattle.sl_host_law.proofs.laws.step_parts.members_wake.Goals as goal

pub returns : goal.returns
returns c = its.members_wake
