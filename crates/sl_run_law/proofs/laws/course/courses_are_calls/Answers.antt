use Rattle.sl_run_law.proofs.Course.CoursesAreCalls.{courses_are_calls}
use Rattle.sl_run_law.proofs.laws.course.courses_are_calls.Goals as goal

pub returns : goal.returns
returns c = courses_are_calls
