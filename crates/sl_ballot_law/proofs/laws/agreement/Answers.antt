use Rattle.sl_ballot_law.proofs.AgreementLaws.{agreement}
use Rattle.sl_ballot_law.proofs.laws.agreement.Goals as goal

pub returns : goal.returns
returns c = agreement
