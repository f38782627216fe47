use Rattle.sl_run_law.proofs.Moment.LaterThanFront.{moments_follow_fronts}
use Rattle.sl_run_law.proofs.laws.moment.moments_follow_fronts.Goals as goal

pub returns : goal.returns
returns c = moments_follow_fronts
