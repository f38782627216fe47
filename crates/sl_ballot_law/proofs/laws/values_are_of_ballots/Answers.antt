use Rattle.sl_ballot_law.proofs.AgreementLaws.{accepted}
use Rattle.sl_ballot_law.proofs.laws.values_are_of_ballots.Goals as goal

pub returns : goal.returns
returns c = accepted
