use Rattle.sl_run_law.proofs.Moment.MachineWaits.{verify_late}
use Rattle.sl_run_law.proofs.laws.moment.verify_reads_are_late.Goals as goal

pub returns : goal.returns
returns c = verify_late
