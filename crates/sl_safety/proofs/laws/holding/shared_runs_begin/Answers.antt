use Rattle.sl_safety.proofs.Holding.SharedHoldingsBegin.{shared_runs_begin}
use Rattle.sl_safety.proofs.laws.holding.shared_runs_begin.Goals as goal

pub returns : goal.returns
returns c = shared_runs_begin
