-- Each instance of a history has a reason, and each of its writes is one of a ballot.
use Rattle.sl_safety.proofs.Ballot.EndedAll.{ended_ballots_end}
use Rattle.sl_safety.proofs.Ballot.KeptBallots.{keep_ballots}
use Rattle.sl_safety.proofs.Ballot.Phase2Is.{phases_2_are}
use Rattle.sl_safety.proofs.Ballot.ReasonGiven.{have_reasons}
use Rattle.sl_safety.specs.Ballot.Reasons.{HistoriesKeepTheirBallots, InstancesHaveReasons}

pub instances_have_reasons : InstancesHaveReasons
instances_have_reasons = have_reasons ended_ballots_end

pub histories_keep_their_ballots : HistoriesKeepTheirBallots
histories_keep_their_ballots = keep_ballots ended_ballots_end phases_2_are
