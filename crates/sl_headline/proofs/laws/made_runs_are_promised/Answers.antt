use Rattle.sl_headline.proofs.RunsArePromised.{made_runs_are_promised}
use Rattle.sl_headline.proofs.laws.made_runs_are_promised.Goals as goal

pub returns : goal.returns
returns g c = made_runs_are_promised g.D.Daemon.stands
