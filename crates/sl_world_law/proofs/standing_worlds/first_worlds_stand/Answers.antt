use Rattle.sl_world_law.proofs.FirstStanding.{first_worlds_stand}
use Rattle.sl_world_law.proofs.standing_worlds.first_worlds_stand.Goals as goal

pub returns : goal.returns
returns g c = first_worlds_stand g.D.Daemon.commands g.D.Daemon.stands
