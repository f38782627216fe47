use Rattle.sl_host_law.proofs.StepParts.RecoveriesAreTaken as its
use Rattle.sl_host_law.proofs.laws.step_parts.recoveries_are_taken.Goals as goal

pub returns : goal.returns
returns c = its.recoveries_are_taken
