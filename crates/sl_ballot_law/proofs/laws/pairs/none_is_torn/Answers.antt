use Rattle.sl_ballot_law.proofs.Pairs.ReadLaws.{none_torn}
use Rattle.sl_ballot_law.proofs.laws.pairs.none_is_torn.Goals as goal

pub returns : goal.returns
returns c = none_torn
