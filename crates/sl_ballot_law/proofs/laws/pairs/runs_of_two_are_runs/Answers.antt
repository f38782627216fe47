use Rattle.sl_ballot_law.proofs.Pairs.MomentLaws.{of_two}
use Rattle.sl_ballot_law.proofs.laws.pairs.runs_of_two_are_runs.Goals as goal

pub returns : goal.returns
returns c = of_two
