use Rattle.sl_step_law.proofs.HostsBegin as its
use Rattle.sl_step_law.proofs.laws.hosts_begin.Goals as goal

pub returns : goal.returns
returns c = its.hosts_begin
