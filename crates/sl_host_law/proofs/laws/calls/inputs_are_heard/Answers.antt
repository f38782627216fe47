use Rattle.sl_host_law.proofs.Calls.InputsAreHeard as its
use Rattle.sl_host_law.proofs.laws.calls.inputs_are_heard.Goals as goal

pub returns : goal.returns
returns c = its.inputs_are_heard
