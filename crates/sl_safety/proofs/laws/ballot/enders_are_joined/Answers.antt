use Rattle.sl_safety.proofs.Ballot.EndedJoined.{enders_are_joined}
use Rattle.sl_safety.proofs.laws.ballot.enders_are_joined.Goals as goal

pub returns : goal.returns
returns c = enders_are_joined
