use Rattle.sl_run_law.proofs.Moment.MachineWaits.{dead_waits}
use Rattle.sl_run_law.proofs.laws.moment.dead_waits.Goals as goal

pub returns : goal.returns
returns c = dead_waits
