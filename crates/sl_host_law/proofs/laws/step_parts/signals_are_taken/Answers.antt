use Rattle.sl_host_law.proofs.StepParts.SignalsAreTaken as its
use Rattle.sl_host_law.proofs.laws.step_parts.signals_are_taken.Goals as goal

pub returns : goal.returns
returns c = its.signals_are_taken
