use Rattle.sl_run_law.proofs.WorldsGoOn.{run_goes}
use Rattle.sl_run_law.proofs.laws.runs_go_on.Goals as goal

pub returns : goal.returns
returns c = run_goes
