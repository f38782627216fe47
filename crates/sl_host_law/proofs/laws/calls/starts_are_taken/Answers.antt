use Rattle.sl_host_law.proofs.Calls.StartsAreTaken as its
use Rattle.sl_host_law.proofs.laws.calls.starts_are_taken.Goals as goal

pub returns : goal.returns
returns c = its.starts_are_taken
