use Rattle.sl_safety.proofs.Holding.HoldersStand.{holders_stand}
use Rattle.sl_safety.proofs.laws.holding.holders_stand.Goals as goal

pub returns : goal.returns
returns c = holders_stand
