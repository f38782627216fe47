use Rattle.sl_run_law.proofs.Landing.LandedRemain.{landed_are_there}
use Rattle.sl_run_law.proofs.laws.landing.landed_writes_are_there.Goals as goal

pub returns : goal.returns
returns c = landed_are_there
