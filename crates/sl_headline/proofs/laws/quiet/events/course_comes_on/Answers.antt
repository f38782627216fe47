use Rattle.sl_headline.proofs.Quiet.Events.CourseComesOn.{course_comes_on}
use Rattle.sl_headline.proofs.laws.quiet.events.course_comes_on.Goals as goal

pub returns : goal.returns
returns c = course_comes_on
