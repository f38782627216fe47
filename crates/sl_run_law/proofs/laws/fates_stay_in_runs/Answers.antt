use Rattle.sl_run_law.proofs.FatesStay.{run_fates}
use Rattle.sl_run_law.proofs.laws.fates_stay_in_runs.Goals as goal

pub returns : goal.returns
returns c = run_fates
