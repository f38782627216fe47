use Rattle.sl_world_law.proofs.FirstStanding.{each_stood}
use Rattle.sl_world_law.proofs.standing_worlds.each_stood.Goals as goal

pub returns : goal.returns
returns g c = each_stood g.D.Daemon.commands g.D.Daemon.stands
