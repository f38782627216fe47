use Rattle.sl_world_law.proofs.EventsStand.{refusals_stand}
use Rattle.sl_world_law.proofs.standing_worlds.refusals_stand.Goals as goal

pub returns : goal.returns
returns g c = refusals_stand g.D.Daemon.commands g.D.Daemon.stands
