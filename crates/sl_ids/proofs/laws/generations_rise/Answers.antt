use Rattle.sl_ids.proofs.InterfaceLaws.{rises}
use Rattle.sl_ids.proofs.laws.generations_rise.Goals as goal

pub returns : goal.returns
returns c = rises
