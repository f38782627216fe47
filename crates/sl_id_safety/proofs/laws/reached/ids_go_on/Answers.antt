use Rattle.sl_id_safety.proofs.Reached.IdsAreReached.{ids_go_on}
use Rattle.sl_id_safety.proofs.laws.reached.ids_go_on.Goals as goal

pub returns : goal.returns
returns c = ids_go_on
