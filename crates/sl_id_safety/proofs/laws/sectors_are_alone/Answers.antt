use Rattle.sl_id_safety.proofs.IdSafety.{sectors_are_alone}
use Rattle.sl_id_safety.proofs.laws.sectors_are_alone.Goals as goal

pub returns : goal.returns
returns c = sectors_are_alone
