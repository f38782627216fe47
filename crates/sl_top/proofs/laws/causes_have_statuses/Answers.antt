use Rattle.sl_top.proofs.StatusLaws as its
use Rattle.sl_top.proofs.laws.causes_have_statuses.Goals as goal

pub returns : goal.returns
returns g c = its.causes_have_statuses _
