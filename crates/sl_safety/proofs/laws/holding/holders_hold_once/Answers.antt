use Rattle.sl_safety.proofs.Holding.HoldersHoldOnce.{holders_hold_once}
use Rattle.sl_safety.proofs.laws.holding.holders_hold_once.Goals as goal

pub returns : goal.returns
returns c = holders_hold_once
