-- Leaders are written by winners.
use Rattle.sl_safety.specs.Ballot.Reasons.{OfHostsHistory}
use Rattle.sl_ballot_law.specs.Instances.{LeadersHaveWon}

-- Each leader of a resource names the session that writes it, after an own ballot of its instance ended with that session.
abbrev pub LeadersFollowBallots : Type 0
LeadersFollowBallots = OfHostsHistory LeadersHaveWon
