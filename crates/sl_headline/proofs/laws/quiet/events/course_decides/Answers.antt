use Rattle.sl_headline.proofs.Quiet.Events.CourseDecides.{course_decides}
use Rattle.sl_headline.proofs.laws.quiet.events.course_decides.Goals as goal

pub returns : goal.returns
returns c = course_decides
