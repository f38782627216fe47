use Rattle.sl_ids.proofs.StateLaws.{ordered}
use Rattle.sl_ids.proofs.laws.claims_are_ordered.Goals as goal

pub returns : goal.returns
returns c = ordered
