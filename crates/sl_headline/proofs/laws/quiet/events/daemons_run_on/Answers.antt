use Rattle.sl_headline.proofs.Quiet.Events.DaemonsRunOn.{daemons_run_on}
use Rattle.sl_headline.proofs.laws.quiet.events.daemons_run_on.Goals as goal

pub returns : goal.returns
returns c = daemons_run_on
