use Rattle.sl_id_safety.proofs.IdSafety.{evidences_are_true}
use Rattle.sl_id_safety.proofs.laws.evidences_are_true.Goals as goal

pub returns : goal.returns
returns c = evidences_are_true
