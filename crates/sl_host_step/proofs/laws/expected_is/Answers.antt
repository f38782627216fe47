use Rattle.sl_host_step.proofs.ExpectedInputs as its
use Rattle.sl_host_step.proofs.laws.expected_is.Goals as goal

pub returns : goal.returns
returns c = its.expected_is
