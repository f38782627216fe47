use Rattle.sl_run_law.proofs.Moment.MachineWaits.{pending_bounded}
use Rattle.sl_run_law.proofs.laws.moment.pending_are_bounded.Goals as goal

pub returns : goal.returns
returns c = pending_bounded
