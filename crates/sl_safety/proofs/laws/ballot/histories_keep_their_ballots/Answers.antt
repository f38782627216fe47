use Rattle.sl_safety.proofs.Ballot.InstancesHaveReasons.{histories_keep_their_ballots}
use Rattle.sl_safety.proofs.laws.ballot.histories_keep_their_ballots.Goals as goal

pub returns : goal.returns
returns c = histories_keep_their_ballots
