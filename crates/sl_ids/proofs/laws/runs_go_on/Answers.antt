use Rattle.sl_ids.proofs.DerivedLaws.{go_on}
use Rattle.sl_ids.proofs.laws.runs_go_on.Goals as goal

pub returns : goal.returns
returns c = go_on
