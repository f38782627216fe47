use Rattle.sl_ballot_law.proofs.Pairs.ReadLaws.{once}
use Rattle.sl_ballot_law.proofs.laws.pairs.once_is_register.Goals as goal

pub returns : goal.returns
returns c = once
