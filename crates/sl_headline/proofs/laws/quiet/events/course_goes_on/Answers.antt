use Rattle.sl_headline.proofs.Quiet.Events.CourseGoesOn.{course_goes_on}
use Rattle.sl_headline.proofs.laws.quiet.events.course_goes_on.Goals as goal

pub returns : goal.returns
returns c = course_goes_on
