use Rattle.sl_run_law.proofs.Moment.MachineWaits.{claims_bounded}
use Rattle.sl_run_law.proofs.laws.moment.claims_are_bounded.Goals as goal

pub returns : goal.returns
returns c = claims_bounded
