use Rattle.sl_run_law.proofs.Moment.MachineWaits.{watches_long}
use Rattle.sl_run_law.proofs.laws.moment.watches_are_long.Goals as goal

pub returns : goal.returns
returns c = watches_long
