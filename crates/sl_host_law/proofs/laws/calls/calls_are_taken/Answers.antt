use Rattle.sl_host_law.proofs.Calls.CallsAreTaken as its
use Rattle.sl_host_law.proofs.laws.calls.calls_are_taken.Goals as goal

pub returns : goal.returns
returns c = its.calls_are_taken
