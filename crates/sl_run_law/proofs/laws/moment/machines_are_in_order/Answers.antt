use Rattle.sl_run_law.proofs.Moment.MachinesInOrder.{machines_ordered}
use Rattle.sl_run_law.proofs.laws.moment.machines_are_in_order.Goals as goal

pub returns : goal.returns
returns c = machines_ordered
