use Rattle.sl_ballot_law.proofs.HoldingLaws.{marks_shown}
use Rattle.sl_ballot_law.proofs.laws.marks_are_shown.Goals as goal

pub returns : goal.returns
returns c = marks_shown
