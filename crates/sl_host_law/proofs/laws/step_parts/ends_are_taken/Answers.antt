use Rattle.sl_host_law.proofs.StepParts.EndsAreTaken as its
use Rattle.sl_host_law.proofs.laws.step_parts.ends_are_taken.Goals as goal

pub returns : goal.returns
returns c = its.ends_are_taken
