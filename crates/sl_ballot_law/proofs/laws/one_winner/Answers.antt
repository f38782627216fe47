use Rattle.sl_ballot_law.proofs.AgreementLaws.{one_winner}
use Rattle.sl_ballot_law.proofs.laws.one_winner.Goals as goal

pub returns : goal.returns
returns c = one_winner
