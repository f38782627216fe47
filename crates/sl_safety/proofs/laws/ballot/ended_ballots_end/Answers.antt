use Rattle.sl_safety.proofs.Ballot.EndedAll.{ended_ballots_end}
use Rattle.sl_safety.proofs.laws.ballot.ended_ballots_end.Goals as goal

pub returns : goal.returns
returns c = ended_ballots_end
