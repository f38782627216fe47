use Rattle.sl_headline.proofs.Quiet.Course.QuietDecisions.{quiet_decisions}
use Rattle.sl_headline.proofs.laws.quiet.course.quiet_decisions.Goals as goal

pub returns : goal.returns
returns c = quiet_decisions
