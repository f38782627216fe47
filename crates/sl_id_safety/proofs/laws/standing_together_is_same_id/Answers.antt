use Rattle.sl_id_safety.proofs.JoinedStand.{standing_together_is_same_id}
use Rattle.sl_id_safety.proofs.laws.standing_together_is_same_id.Goals as goal

pub returns : goal.returns
returns c = standing_together_is_same_id
