use Rattle.sl_ballot_law.proofs.InstanceLaws.{leads_winner}
use Rattle.sl_ballot_law.proofs.laws.leaders_are_winners.Goals as goal

pub returns : goal.returns
returns c = leads_winner
