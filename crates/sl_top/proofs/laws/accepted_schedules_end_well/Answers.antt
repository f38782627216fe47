use Rattle.sl_top.proofs.StatusLaws as its
use Rattle.sl_top.proofs.laws.accepted_schedules_end_well.Goals as goal

pub returns : goal.returns
returns g c = its.accepted_schedules_end_well _
