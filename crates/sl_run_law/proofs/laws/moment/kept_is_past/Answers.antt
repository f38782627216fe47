use Rattle.sl_run_law.proofs.Moment.MomentsFollowSteps.{kept_past}
use Rattle.sl_run_law.proofs.laws.moment.kept_is_past.Goals as goal

pub returns : goal.returns
returns c = kept_past
