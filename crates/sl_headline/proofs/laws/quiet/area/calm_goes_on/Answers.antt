use Rattle.sl_headline.proofs.Quiet.Area.CalmGoesOn.{calm_goes_on}
use Rattle.sl_headline.proofs.laws.quiet.area.calm_goes_on.Goals as goal

pub returns : goal.returns
returns c = calm_goes_on
