use Rattle.sl_ballot_law.proofs.HoldingLaws.{active_is_open}
use Rattle.sl_ballot_law.proofs.laws.active_is_open.Goals as goal

pub returns : goal.returns
returns c = active_is_open
