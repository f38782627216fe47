use Rattle.sl_host_law.proofs.StepParts.LinesAreTaken as its
use Rattle.sl_host_law.proofs.laws.step_parts.lines_are_taken.Goals as goal

pub returns : goal.returns
returns c = its.lines_are_taken
