use Rattle.sl_safety.proofs.Holding.SharedHoldingsBegin.{shared_holdings_begin}
use Rattle.sl_safety.proofs.laws.holding.shared_holdings_begin.Goals as goal

pub returns : goal.returns
returns c = shared_holdings_begin
