use Rattle.sl_ballot_law.proofs.HoldingLaws.{marks_stay}
use Rattle.sl_ballot_law.proofs.laws.marks_stay.Goals as goal

pub returns : goal.returns
returns c = marks_stay
