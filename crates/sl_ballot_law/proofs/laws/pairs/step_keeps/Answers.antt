use Rattle.sl_ballot_law.proofs.Pairs.StepLaws.{step_kept}
use Rattle.sl_ballot_law.proofs.laws.pairs.step_keeps.Goals as goal

pub returns : goal.returns
returns c = step_kept
