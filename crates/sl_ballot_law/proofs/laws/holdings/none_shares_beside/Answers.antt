use Rattle.sl_ballot_law.proofs.Grantings.GrantsMeet.{none_shares_beside}
use Rattle.sl_ballot_law.proofs.laws.holdings.none_shares_beside.Goals as goal

pub returns : goal.returns
returns c = none_shares_beside
