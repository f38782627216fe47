use Rattle.sl_top.proofs.PictureLaws.{draws_by}
use Rattle.sl_top.proofs.top.draw.Goals as goal

pub returns : goal.returns
returns g c = draws_by _ _ _ _ _ _ _ _ _ c.draw_schedule.result c.draw_schedule.ensures c.status_of.result c.status_of.ensures
