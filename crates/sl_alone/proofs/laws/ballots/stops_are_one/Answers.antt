use Rattle.sl_alone.proofs.BallotStops.{stops_are_one}
use Rattle.sl_alone.proofs.laws.ballots.stops_are_one.Goals as goal

pub returns : goal.returns
returns c = stops_are_one
