use Rattle.sl_world_law.proofs.OwnEvents.{beginnings_stand}
use Rattle.sl_world_law.proofs.standing_worlds.beginnings_stand.Goals as goal

pub returns : goal.returns
returns g c = beginnings_stand g.D.Daemon.commands g.D.Daemon.stands
