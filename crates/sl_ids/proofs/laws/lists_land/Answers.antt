use Rattle.sl_ids.proofs.DerivedLaws.{listed}
use Rattle.sl_ids.proofs.laws.lists_land.Goals as goal

pub returns : goal.returns
returns c = listed
