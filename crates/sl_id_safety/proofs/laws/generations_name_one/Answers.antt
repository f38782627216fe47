use Rattle.sl_id_safety.proofs.IdSafety.{generations_name_one}
use Rattle.sl_id_safety.proofs.laws.generations_name_one.Goals as goal

pub returns : goal.returns
returns c = generations_name_one
