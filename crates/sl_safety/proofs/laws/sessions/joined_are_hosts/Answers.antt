use Rattle.sl_safety.proofs.Sessions.NamesAreApart.{joined_are_hosts}
use Rattle.sl_safety.proofs.laws.sessions.joined_are_hosts.Goals as goal

pub returns : goal.returns
returns c = joined_are_hosts
