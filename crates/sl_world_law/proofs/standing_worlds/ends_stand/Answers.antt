use Rattle.sl_world_law.proofs.OwnEvents.{ends_stand}
use Rattle.sl_world_law.proofs.standing_worlds.ends_stand.Goals as goal

pub returns : goal.returns
returns g c = ends_stand g.D.Daemon.commands g.D.Daemon.stands
