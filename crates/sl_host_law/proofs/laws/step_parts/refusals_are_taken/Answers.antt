use Rattle.sl_host_law.proofs.StepParts.RefusalsAreTaken as its
use Rattle.sl_host_law.proofs.laws.step_parts.refusals_are_taken.Goals as goal

pub returns : goal.returns
returns c = its.refusals_are_taken
