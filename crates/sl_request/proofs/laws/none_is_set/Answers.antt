use Rattle.sl_request.proofs.laws.none_is_set.Goals as goal
use Rattle.sl_request.proofs.BitmapFacts.{none_is_set}

pub returns : goal.returns
returns c = none_is_set
