use Rattle.sl_ballot_law.proofs.Grantings.GrantsMeet.{marks_last}
use Rattle.sl_ballot_law.proofs.laws.holdings.marks_last.Goals as goal

pub returns : goal.returns
returns c = marks_last
