use Rattle.sl_world_law.proofs.EventsStand.{steps_stand}
use Rattle.sl_world_law.proofs.standing_worlds.steps_stand.Goals as goal

pub returns : goal.returns
returns g c = steps_stand g.D.Daemon.commands g.D.Daemon.stands
