use Rattle.sl_safety.proofs.Holding.HoldingsGoOn.{holdings_go_on}
use Rattle.sl_safety.proofs.laws.holding.holdings_go_on.Goals as goal

pub returns : goal.returns
returns c = holdings_go_on
