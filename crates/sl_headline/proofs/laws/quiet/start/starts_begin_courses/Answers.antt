use Rattle.sl_headline.proofs.Quiet.Start.StartsBeginCourses.{starts_begin_courses}
use Rattle.sl_headline.proofs.laws.quiet.start.starts_begin_courses.Goals as goal

pub returns : goal.returns
returns c = starts_begin_courses
