use Rattle.sl_world_law.proofs.EventsStand.{steps_are_ready}
use Rattle.sl_world_law.proofs.standing_worlds.steps_are_ready.Goals as goal

pub returns : goal.returns
returns g c = steps_are_ready g.D.Daemon.commands g.D.Daemon.stands
