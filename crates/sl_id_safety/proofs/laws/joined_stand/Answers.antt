use Rattle.sl_id_safety.proofs.JoinedStand.{joined_stand}
use Rattle.sl_id_safety.proofs.laws.joined_stand.Goals as goal

pub returns : goal.returns
returns c = joined_stand
