use Rattle.sl_id_safety.proofs.IdSafety.{one_acts_for_each_id}
use Rattle.sl_id_safety.proofs.laws.one_acts_for_each_id.Goals as goal

pub returns : goal.returns
returns c = one_acts_for_each_id
