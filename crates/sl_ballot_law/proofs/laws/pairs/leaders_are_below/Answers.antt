use Rattle.sl_ballot_law.proofs.Pairs.LeaderLaws.{below}
use Rattle.sl_ballot_law.proofs.laws.pairs.leaders_are_below.Goals as goal

pub returns : goal.returns
returns c = below
