use Rattle.sl_ballot_law.proofs.Pairs.ReadLaws.{stood_newest}
use Rattle.sl_ballot_law.proofs.laws.pairs.stood_is_newest.Goals as goal

pub returns : goal.returns
returns c = stood_newest
