use Rattle.sl_id_safety.proofs.JoinedStand.{same_ids_stand_together}
use Rattle.sl_id_safety.proofs.laws.same_ids_stand_together.Goals as goal

pub returns : goal.returns
returns c = same_ids_stand_together
