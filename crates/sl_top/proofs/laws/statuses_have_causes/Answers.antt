use Rattle.sl_top.proofs.StatusLaws as its
use Rattle.sl_top.proofs.laws.statuses_have_causes.Goals as goal

pub returns : goal.returns
returns g c = its.statuses_have_causes _
