use Rattle.sl_safety.proofs.Pairs.PairsAreGiven.{pairs_are_shown}
use Rattle.sl_safety.proofs.laws.host_pairs.pairs_are_shown.Goals as goal

pub returns : goal.returns
returns c = pairs_are_shown
