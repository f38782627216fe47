use Rattle.sl_run_law.proofs.Landing.WholeSectors.{are_sectors}
use Rattle.sl_run_law.proofs.laws.landing.landings_are_sectors.Goals as goal

pub returns : goal.returns
returns c = are_sectors
