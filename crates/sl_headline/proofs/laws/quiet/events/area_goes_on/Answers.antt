use Rattle.sl_headline.proofs.Quiet.Events.AreaGoesOn.{area_goes_on}
use Rattle.sl_headline.proofs.laws.quiet.events.area_goes_on.Goals as goal

pub returns : goal.returns
returns c = area_goes_on
