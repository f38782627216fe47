use Rattle.sl_headline.proofs.Quiet.Events.CourseIsGranted.{course_is_granted}
use Rattle.sl_headline.proofs.laws.quiet.events.course_is_granted.Goals as goal

pub returns : goal.returns
returns c = course_is_granted
