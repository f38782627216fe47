use Rattle.sl_play.proofs.EndsFinish.{events_lead_back}
use Rattle.sl_play.proofs.laws.events_lead_back.Goals as goal
use Rattle.sl_play.specs.PlayIsOwed.{EachStood}

pub returns : goal.returns
returns g c = events_lead_back (EachStood g.D.Daemon.stands)
