use Rattle.sl_safety.proofs.BallotsAgree.{agreement_holds}
use Rattle.sl_safety.proofs.laws.ballots_agree.Goals as goal

pub returns : goal.returns
returns c = agreement_holds
