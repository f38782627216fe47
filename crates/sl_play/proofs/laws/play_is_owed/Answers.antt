use Rattle.sl_play.proofs.PlayIsOwed.{play_is_owed}
use Rattle.sl_play.proofs.laws.play_is_owed.Goals as goal

pub returns : goal.returns
returns g c = play_is_owed g.D.Daemon.stands
