use Rattle.sl_ballot_law.proofs.AgreementLaws.{numbers_name}
use Rattle.sl_ballot_law.proofs.laws.numbers_name_ballots.Goals as goal

pub returns : goal.returns
returns c = numbers_name
