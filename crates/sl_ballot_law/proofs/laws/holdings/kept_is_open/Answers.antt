use Rattle.sl_ballot_law.proofs.Grantings.GrantsMeet.{kept_is_open}
use Rattle.sl_ballot_law.proofs.laws.holdings.kept_is_open.Goals as goal

pub returns : goal.returns
returns c = kept_is_open
