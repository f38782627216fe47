use Rattle.sl_safety.proofs.Holding.HoldingsAreGranted.{holdings_are_granted}
use Rattle.sl_safety.proofs.laws.holding.holdings_are_granted.Goals as goal

pub returns : goal.returns
returns c = holdings_are_granted
