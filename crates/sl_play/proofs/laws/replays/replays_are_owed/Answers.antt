use Rattle.sl_play.proofs.ReplaysAreOwed.{replays_are_owed}
use Rattle.sl_play.proofs.laws.replays.replays_are_owed.Goals as goal

pub returns : goal.returns
returns g c = replays_are_owed g.D.Daemon.commands g.D.Daemon.stands
