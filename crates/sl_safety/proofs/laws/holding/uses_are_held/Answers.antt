use Rattle.sl_safety.proofs.Holding.Holders.{uses_are_held}
use Rattle.sl_safety.proofs.laws.holding.uses_are_held.Goals as goal

pub returns : goal.returns
returns c = uses_are_held
