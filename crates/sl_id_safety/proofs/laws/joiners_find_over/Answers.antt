use Rattle.sl_id_safety.proofs.IdSafety.{joiners_find_over}
use Rattle.sl_id_safety.proofs.laws.joiners_find_over.Goals as goal

pub returns : goal.returns
returns c = joiners_find_over
