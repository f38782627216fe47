use Rattle.sl_wdmd.proofs.MoveLaws.{stay_apart}
use Rattle.sl_wdmd.proofs.laws.stay_apart.Goals as goal

pub returns : goal.returns
returns c = stay_apart
