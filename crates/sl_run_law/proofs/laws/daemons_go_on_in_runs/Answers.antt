use Rattle.sl_run_law.proofs.DaemonsGoOn.{run_hosts}
use Rattle.sl_run_law.proofs.laws.daemons_go_on_in_runs.Goals as goal

pub returns : goal.returns
returns c = run_hosts
