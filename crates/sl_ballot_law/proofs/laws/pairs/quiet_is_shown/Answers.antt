use Rattle.sl_ballot_law.proofs.Pairs.ReadLaws.{quiet_shown}
use Rattle.sl_ballot_law.proofs.laws.pairs.quiet_is_shown.Goals as goal

pub returns : goal.returns
returns c = quiet_shown
