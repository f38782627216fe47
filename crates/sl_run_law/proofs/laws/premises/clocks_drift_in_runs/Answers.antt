use Rattle.sl_run_law.proofs.ClocksDrift.{run_drifts}
use Rattle.sl_run_law.proofs.laws.premises.clocks_drift_in_runs.Goals as goal

pub returns : goal.returns
returns c = run_drifts
