use Rattle.sl_world_law.proofs.OwnEvents.{own_stands}
use Rattle.sl_world_law.proofs.standing_worlds.own_stands.Goals as goal

pub returns : goal.returns
returns g c = own_stands g.D.Daemon.commands g.D.Daemon.stands
