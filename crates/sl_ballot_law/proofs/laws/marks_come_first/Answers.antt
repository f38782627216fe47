use Rattle.sl_ballot_law.proofs.HoldingLaws.{marks_first}
use Rattle.sl_ballot_law.proofs.laws.marks_come_first.Goals as goal

pub returns : goal.returns
returns c = marks_first
