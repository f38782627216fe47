use Rattle.sl_ballot_law.proofs.Grantings.GrantsMeet.{marks_come}
use Rattle.sl_ballot_law.proofs.laws.holdings.marks_come.Goals as goal

pub returns : goal.returns
returns c = marks_come
