use Rattle.sl_shown.proofs.ShownHoldings.{bars_are_holdings}
use Rattle.sl_shown.proofs.laws.bars_are_holdings.Goals as goal

pub returns : goal.returns
returns c = bars_are_holdings
