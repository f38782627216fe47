use Rattle.sl_id_safety.proofs.State.SessionFacts.{ids_are_bounded}
use Rattle.sl_id_safety.proofs.laws.state.ids_are_bounded.Goals as goal

pub returns : goal.returns
returns c = ids_are_bounded
