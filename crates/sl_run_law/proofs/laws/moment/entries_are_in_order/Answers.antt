use Rattle.sl_run_law.proofs.Moment.MachinesInOrder.{entries_ordered}
use Rattle.sl_run_law.proofs.laws.moment.entries_are_in_order.Goals as goal

pub returns : goal.returns
returns c = entries_ordered
