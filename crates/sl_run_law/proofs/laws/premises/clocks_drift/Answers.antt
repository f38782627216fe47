use Rattle.sl_run_law.proofs.ClocksDrift.{event_drifts}
use Rattle.sl_run_law.proofs.laws.premises.clocks_drift.Goals as goal

pub returns : goal.returns
returns c = event_drifts
