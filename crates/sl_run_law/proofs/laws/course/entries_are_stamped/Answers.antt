use Rattle.sl_run_law.proofs.Course.EntriesAreStamped.{entries_are_stamped}
use Rattle.sl_run_law.proofs.laws.course.entries_are_stamped.Goals as goal

pub returns : goal.returns
returns c = entries_are_stamped
