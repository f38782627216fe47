use Rattle.sl_play.proofs.EndsFinish.{ends_finish}
use Rattle.sl_play.proofs.laws.ends_finish.Goals as goal
use Rattle.sl_play.specs.PlayIsOwed.{EachStood}

pub returns : goal.returns
returns g c = ends_finish (EachStood g.D.Daemon.stands)
