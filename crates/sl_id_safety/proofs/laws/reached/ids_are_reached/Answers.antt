use Rattle.sl_id_safety.proofs.Reached.IdsAreReached.{ids_are_reached}
use Rattle.sl_id_safety.proofs.laws.reached.ids_are_reached.Goals as goal

pub returns : goal.returns
returns c = ids_are_reached
