use Rattle.sl_wdmd.proofs.MoveLaws.{others_stay}
use Rattle.sl_wdmd.proofs.laws.others_stay.Goals as goal

pub returns : goal.returns
returns c = others_stay
