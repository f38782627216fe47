use Rattle.sl_ballot_law.proofs.HoldingLaws.{one_exclusive}
use Rattle.sl_ballot_law.proofs.laws.one_exclusive.Goals as goal

pub returns : goal.returns
returns c = one_exclusive
