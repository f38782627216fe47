use Rattle.sl_id_safety.proofs.IdInterface.{joined_stays}
use Rattle.sl_id_safety.proofs.laws.joined_stays.Goals as goal

pub returns : goal.returns
returns c = joined_stays
