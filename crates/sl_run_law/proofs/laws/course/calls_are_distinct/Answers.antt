use Rattle.sl_run_law.proofs.Course.CallsAreDistinct.{calls_are_distinct}
use Rattle.sl_run_law.proofs.laws.course.calls_are_distinct.Goals as goal

pub returns : goal.returns
returns c = calls_are_distinct
