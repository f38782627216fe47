use Rattle.sl_ballot.proofs.ValueLaws.{values_are_kept}
use Rattle.sl_ballot.proofs.laws.values_are_kept.Goals as goal

pub returns : goal.returns
returns c = values_are_kept
