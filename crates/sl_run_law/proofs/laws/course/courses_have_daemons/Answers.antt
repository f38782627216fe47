use Rattle.sl_run_law.proofs.Course.CountedDaemons.{courses_have_daemons}
use Rattle.sl_run_law.proofs.laws.course.courses_have_daemons.Goals as goal

pub returns : goal.returns
returns c = courses_have_daemons
