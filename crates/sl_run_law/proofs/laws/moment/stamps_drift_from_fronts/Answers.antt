use Rattle.sl_run_law.proofs.Moment.LaterThanFront.{drift_from_fronts}
use Rattle.sl_run_law.proofs.laws.moment.stamps_drift_from_fronts.Goals as goal

pub returns : goal.returns
returns c = drift_from_fronts
