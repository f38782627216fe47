use Rattle.sl_headline.proofs.Quiet.Events.AreaGoesOn.{landings_go_on}
use Rattle.sl_headline.proofs.laws.quiet.events.landings_go_on.Goals as goal

pub returns : goal.returns
returns c = landings_go_on
