use Rattle.sl_host_law.proofs.Calls.JoiningsAreTaken as its
use Rattle.sl_host_law.proofs.laws.calls.joinings_are_taken.Goals as goal

pub returns : goal.returns
returns c = its.joinings_are_taken
