use Rattle.sl_world_law.proofs.EventsStand.{steps_fit}
use Rattle.sl_world_law.proofs.standing_worlds.steps_fit.Goals as goal

pub returns : goal.returns
returns g c = steps_fit g.D.Daemon.commands g.D.Daemon.stands
