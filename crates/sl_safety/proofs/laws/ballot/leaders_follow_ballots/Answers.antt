use Rattle.sl_safety.proofs.Ballot.LeadersFollowBallots.{leaders_follow_ballots}
use Rattle.sl_safety.proofs.laws.ballot.leaders_follow_ballots.Goals as goal

pub returns : goal.returns
returns c = leaders_follow_ballots
