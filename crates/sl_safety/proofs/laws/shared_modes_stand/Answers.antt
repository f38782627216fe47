use Rattle.sl_safety.proofs.ModesStand.{modes_stand}
use Rattle.sl_safety.proofs.laws.shared_modes_stand.Goals as goal

pub returns : goal.returns
returns c = modes_stand
