use Rattle.sl_ballot_law.proofs.Pairs.StepLaws.{each_moment}
use Rattle.sl_ballot_law.proofs.laws.pairs.invariant_holds.Goals as goal

pub returns : goal.returns
returns c = each_moment
