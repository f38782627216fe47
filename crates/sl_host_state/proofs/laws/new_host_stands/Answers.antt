use Rattle.sl_host_state.proofs.NewHost.{new_host_stands}
use Rattle.sl_host_state.proofs.laws.new_host_stands.Goals as goal

pub returns : goal.returns
returns c = new_host_stands
