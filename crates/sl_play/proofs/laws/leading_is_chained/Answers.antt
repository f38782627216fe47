use Rattle.sl_play.proofs.EndsFinish.{leading_is_chained}
use Rattle.sl_play.proofs.laws.leading_is_chained.Goals as goal
use Rattle.sl_play.specs.PlayIsOwed.{EachStood}

pub returns : goal.returns
returns g c = leading_is_chained (EachStood g.D.Daemon.stands)
