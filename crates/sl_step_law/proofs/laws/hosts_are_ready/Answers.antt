use Rattle.sl_step_law.proofs.HostsAreReady as its
use Rattle.sl_step_law.proofs.laws.hosts_are_ready.Goals as goal

pub returns : goal.returns
returns c = its.hosts_are_ready
