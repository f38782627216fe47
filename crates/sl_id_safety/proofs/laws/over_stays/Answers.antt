use Rattle.sl_id_safety.proofs.IdSafety.{over_stays}
use Rattle.sl_id_safety.proofs.laws.over_stays.Goals as goal

pub returns : goal.returns
returns c = over_stays
