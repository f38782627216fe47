use Rattle.sl_alone.proofs.BallotSteps.{steps_follow_phases}
use Rattle.sl_alone.proofs.laws.ballots.steps_follow_phases.Goals as goal

pub returns : goal.returns
returns c = steps_follow_phases
