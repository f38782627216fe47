use Rattle.sl_step_law.proofs.JoiningsClaim as its
use Rattle.sl_step_law.proofs.laws.joinings_claim.Goals as goal

pub returns : goal.returns
returns c = its.joinings_claim
