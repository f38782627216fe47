use Rattle.sl_run_law.proofs.Moment.MachineWaits.{take_over_waits}
use Rattle.sl_run_law.proofs.laws.moment.take_over_waits.Goals as goal

pub returns : goal.returns
returns c = take_over_waits
