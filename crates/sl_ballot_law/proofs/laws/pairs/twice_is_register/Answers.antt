use Rattle.sl_ballot_law.proofs.Pairs.ReadLaws.{twice}
use Rattle.sl_ballot_law.proofs.laws.pairs.twice_is_register.Goals as goal

pub returns : goal.returns
returns c = twice
