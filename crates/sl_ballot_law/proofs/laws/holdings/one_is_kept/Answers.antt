use Rattle.sl_ballot_law.proofs.Grantings.GrantsMeet.{one_is_kept}
use Rattle.sl_ballot_law.proofs.laws.holdings.one_is_kept.Goals as goal

pub returns : goal.returns
returns c = one_is_kept
