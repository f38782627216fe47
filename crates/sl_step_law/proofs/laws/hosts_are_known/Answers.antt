use Rattle.sl_step_law.proofs.HostsAreKnown as its
use Rattle.sl_step_law.proofs.laws.hosts_are_known.Goals as goal

pub returns : goal.returns
returns c = its.hosts_are_known
