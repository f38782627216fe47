use Rattle.sl_run_law.proofs.Moment.MomentsFollowSteps.{moments_follow}
use Rattle.sl_run_law.proofs.laws.moment.moments_follow_steps.Goals as goal

pub returns : goal.returns
returns c = moments_follow
