use Rattle.sl_host_state.proofs.StepsAreOver as its
use Rattle.sl_host_state.proofs.laws.new_lease_stands.Goals as goal

pub returns : goal.returns
returns c = its.new_lease_stands
