use Rattle.sl_member.proofs.HostsHear.{hosts_keep_the_same}
use Rattle.sl_member.proofs.laws.hosts_keep_the_same.Goals as goal

pub returns : goal.returns
returns c = hosts_keep_the_same
