use Rattle.sl_run_law.proofs.Landing.LandingLaws.{writes_land_once}
use Rattle.sl_run_law.proofs.laws.landing.writes_land_once.Goals as goal

pub returns : goal.returns
returns c = writes_land_once
