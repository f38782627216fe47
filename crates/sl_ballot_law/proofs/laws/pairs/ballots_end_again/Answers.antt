use Rattle.sl_ballot_law.proofs.Pairs.LeaderLaws.{again}
use Rattle.sl_ballot_law.proofs.laws.pairs.ballots_end_again.Goals as goal

pub returns : goal.returns
returns c = again
