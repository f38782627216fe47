use Rattle.sl_ids.proofs.InterfaceLaws.{over_stays}
use Rattle.sl_ids.proofs.laws.over_is_final.Goals as goal

pub returns : goal.returns
returns c = over_stays
