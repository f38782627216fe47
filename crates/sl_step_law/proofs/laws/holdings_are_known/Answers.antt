use Rattle.sl_step_law.proofs.HoldersLeased as its
use Rattle.sl_step_law.proofs.laws.holdings_are_known.Goals as goal

pub returns : goal.returns
returns c = its.holdings_are_known
