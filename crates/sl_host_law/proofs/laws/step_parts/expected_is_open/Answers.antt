use Rattle.sl_host_law.proofs.StepParts.ExpectedIsOpen as its
use Rattle.sl_host_law.proofs.laws.step_parts.expected_is_open.Goals as goal

pub returns : goal.returns
returns c = its.expected_is_open
