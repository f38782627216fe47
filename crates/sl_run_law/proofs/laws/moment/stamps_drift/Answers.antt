use Rattle.sl_run_law.proofs.Moment.MomentsFollowSteps.{drift_between}
use Rattle.sl_run_law.proofs.laws.moment.stamps_drift.Goals as goal

pub returns : goal.returns
returns c = drift_between
