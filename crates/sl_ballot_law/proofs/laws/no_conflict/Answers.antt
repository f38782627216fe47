use Rattle.sl_ballot_law.proofs.HoldingLaws.{no_conflict}
use Rattle.sl_ballot_law.proofs.laws.no_conflict.Goals as goal

pub returns : goal.returns
returns c = no_conflict
