use Rattle.sl_headline.proofs.Quiet.Events.CourseIsGranted.{course_is_quiet}
use Rattle.sl_headline.proofs.laws.quiet.events.course_is_quiet.Goals as goal

pub returns : goal.returns
returns c = course_is_quiet
