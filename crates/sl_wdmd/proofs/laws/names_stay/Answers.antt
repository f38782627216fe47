use Rattle.sl_wdmd.proofs.MoveLaws.{names_stay}
use Rattle.sl_wdmd.proofs.laws.names_stay.Goals as goal

pub returns : goal.returns
returns c = names_stay
