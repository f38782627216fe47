use Rattle.sl_host_law.proofs.StepParts.ExitsAreTaken as its
use Rattle.sl_host_law.proofs.laws.step_parts.exits_are_taken.Goals as goal

pub returns : goal.returns
returns c = its.exits_are_taken
