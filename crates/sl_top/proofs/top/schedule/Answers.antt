use Rattle.sl_top.proofs.StoryLaws.{schedules_by}
use Rattle.sl_top.proofs.top.schedule.Goals as goal

pub returns : goal.returns
returns g c = schedules_by _ _ _ _ _ _ _ c.tell_schedule.result c.status_of_told.result c.tell_schedule.ensures c.status_of_told.ensures
