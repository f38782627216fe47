use Rattle.sl_run_law.proofs.Moment.MomentsFollowSteps.{drift_to_now}
use Rattle.sl_run_law.proofs.laws.moment.stamps_drift_to_now.Goals as goal

pub returns : goal.returns
returns c = drift_to_now
