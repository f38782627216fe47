use Rattle.sl_ballot_law.proofs.AgreementLaws.{ballots_follow}
use Rattle.sl_ballot_law.proofs.laws.ballots_follow.Goals as goal

pub returns : goal.returns
returns c = ballots_follow
