use Rattle.sl_run_law.proofs.Moment.MachinesInOrder.{entries_wait}
use Rattle.sl_run_law.proofs.laws.moment.entries_are_waits.Goals as goal

pub returns : goal.returns
returns c = entries_wait
