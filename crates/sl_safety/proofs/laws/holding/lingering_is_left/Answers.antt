use Rattle.sl_safety.proofs.Holding.LingeringIsLeft.{lingering_is_left}
use Rattle.sl_safety.proofs.laws.holding.lingering_is_left.Goals as goal

pub returns : goal.returns
returns c = lingering_is_left
