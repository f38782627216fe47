use Rattle.sl_headline.proofs.Quiet.Events.CourseLeads.{course_leads}
use Rattle.sl_headline.proofs.laws.quiet.events.course_leads.Goals as goal

pub returns : goal.returns
returns c = course_leads
