use Rattle.sl_headline.proofs.Quiet.Events.CourseLeads.{course_ends}
use Rattle.sl_headline.proofs.laws.quiet.events.course_ends.Goals as goal

pub returns : goal.returns
returns c = course_ends
