use Rattle.sl_safety.proofs.Pairs.PairsStand.{pairs_stand}
use Rattle.sl_safety.proofs.laws.host_pairs.pairs_stand.Goals as goal

pub returns : goal.returns
returns c = pairs_stand
