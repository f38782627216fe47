use Rattle.sl_safety.proofs.Torn.PairsStand.{pairs_stand}
use Rattle.sl_safety.proofs.laws.pairs_have_blocks.pairs_have_blocks.Goals as goal

pub returns : goal.returns
returns c = pairs_stand
