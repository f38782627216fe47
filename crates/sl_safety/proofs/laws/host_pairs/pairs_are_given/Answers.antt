use Rattle.sl_safety.proofs.Pairs.PairsAreGiven.{pairs_are_given}
use Rattle.sl_safety.proofs.laws.host_pairs.pairs_are_given.Goals as goal

pub returns : goal.returns
returns c = pairs_are_given
