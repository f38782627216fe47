use Rattle.sl_world_law.proofs.OwnEvents.{beginnings_are_settings}
use Rattle.sl_world_law.proofs.standing_worlds.beginnings_are_settings.Goals as goal

pub returns : goal.returns
returns g c = beginnings_are_settings g.D.Daemon.commands g.D.Daemon.stands
