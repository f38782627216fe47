use Rattle.sl_ballot_law.proofs.HoldingLaws.{held_active}
use Rattle.sl_ballot_law.proofs.laws.holdings_are_active.Goals as goal

pub returns : goal.returns
returns c = held_active
