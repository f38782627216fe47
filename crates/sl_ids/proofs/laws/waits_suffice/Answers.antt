use Rattle.sl_ids.proofs.DerivedLaws.{waits}
use Rattle.sl_ids.proofs.laws.waits_suffice.Goals as goal

pub returns : goal.returns
returns c = waits
