use Rattle.sl_top.proofs.RunLaws.{replays_by}
use Rattle.sl_top.proofs.top.replay.Goals as goal

pub returns : goal.returns
returns g c = replays_by _ _ _ _ _ _ _ _ c.play_schedule.result c.play_schedule.ensures c.status_of.result c.status_of.ensures
