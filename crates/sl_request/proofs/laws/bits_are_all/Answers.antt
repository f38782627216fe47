use Rattle.sl_request.proofs.laws.bits_are_all.Goals as goal
use Rattle.sl_request.proofs.BitmapFacts.{bits_are_all}

pub returns : goal.returns
returns c = bits_are_all
