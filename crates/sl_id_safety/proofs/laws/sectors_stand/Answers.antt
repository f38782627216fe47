use Rattle.sl_id_safety.proofs.IdSafety.{sectors_stand}
use Rattle.sl_id_safety.proofs.laws.sectors_stand.Goals as goal

pub returns : goal.returns
returns c = sectors_stand
