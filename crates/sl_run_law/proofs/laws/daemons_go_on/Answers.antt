use Rattle.sl_run_law.proofs.DaemonsGoOn.{event_hosts}
use Rattle.sl_run_law.proofs.laws.daemons_go_on.Goals as goal

pub returns : goal.returns
returns c = event_hosts
