use Rattle.sl_alone.proofs.BallotRunLaws.{runs_end}
use Rattle.sl_alone.proofs.laws.ballots.runs_end.Goals as goal

pub returns : goal.returns
returns c = runs_end
