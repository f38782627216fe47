use Rattle.sl_run_law.proofs.Moment.MachineWaits.{silences_long}
use Rattle.sl_run_law.proofs.laws.moment.silences_are_long.Goals as goal

pub returns : goal.returns
returns c = silences_long
