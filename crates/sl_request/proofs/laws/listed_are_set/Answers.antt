use Rattle.sl_request.proofs.laws.listed_are_set.Goals as goal
use Rattle.sl_request.proofs.BitmapFacts.{listed_are_set}

pub returns : goal.returns
returns c = listed_are_set
