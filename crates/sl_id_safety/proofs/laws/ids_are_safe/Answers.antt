use Rattle.sl_id_safety.proofs.IdSafety.{ids_are_safe}
use Rattle.sl_id_safety.proofs.laws.ids_are_safe.Goals as goal

pub returns : goal.returns
returns c = ids_are_safe
