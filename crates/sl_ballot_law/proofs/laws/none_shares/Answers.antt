use Rattle.sl_ballot_law.proofs.HoldingLaws.{none_shares}
use Rattle.sl_ballot_law.proofs.laws.none_shares.Goals as goal

pub returns : goal.returns
returns c = none_shares
