use Rattle.sl_id_safety.proofs.State.IdsStart.{ids_start}
use Rattle.sl_id_safety.proofs.laws.state.ids_start.Goals as goal

pub returns : goal.returns
returns c = ids_start
