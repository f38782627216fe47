use Rattle.sl_id_safety.proofs.IdSafety.{joiners_rise}
use Rattle.sl_id_safety.proofs.laws.joiners_rise.Goals as goal

pub returns : goal.returns
returns c = joiners_rise
