use Rattle.sl_id_safety.proofs.OverAreSettled.{over_are_settled}
use Rattle.sl_id_safety.proofs.laws.over_are_settled.Goals as goal

pub returns : goal.returns
returns c = over_are_settled
