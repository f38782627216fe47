use Rattle.sl_run_law.proofs.Landing.LandingLaws.{landings_are_written}
use Rattle.sl_run_law.proofs.laws.premises.landings_are_written.Goals as goal

pub returns : goal.returns
returns c = landings_are_written
