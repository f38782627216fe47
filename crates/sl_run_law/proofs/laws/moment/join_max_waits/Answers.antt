use Rattle.sl_run_law.proofs.Moment.MachineWaits.{join_max_waits}
use Rattle.sl_run_law.proofs.laws.moment.join_max_waits.Goals as goal

pub returns : goal.returns
returns c = join_max_waits
