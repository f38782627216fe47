use Rattle.sl_headline.proofs.Quiet.Course.KnownOfLease.{course_decisions}
use Rattle.sl_headline.proofs.laws.quiet.course.course_decisions.Goals as goal

pub returns : goal.returns
returns c = course_decisions
