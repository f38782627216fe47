use Rattle.sl_ballot_law.proofs.Pairs.LeaderLaws.{reasons}
use Rattle.sl_ballot_law.proofs.laws.pairs.shown_is_reason.Goals as goal

pub returns : goal.returns
returns c = reasons
