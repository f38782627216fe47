use Rattle.sl_top.proofs.StatusLaws.{other_schedules_are_refused}
use Rattle.sl_top.proofs.laws.other_schedules_are_refused.Goals as goal

pub returns : goal.returns
returns g c = other_schedules_are_refused _
