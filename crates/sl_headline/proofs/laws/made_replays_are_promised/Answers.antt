use Rattle.sl_headline.proofs.RunsArePromised.{made_replays_are_promised}
use Rattle.sl_headline.proofs.laws.made_replays_are_promised.Goals as goal

pub returns : goal.returns
returns g c = made_replays_are_promised g.D.Daemon.stands
