use Rattle.sl_headline.proofs.Quiet.Events.GrantsStay.{grants_stay}
use Rattle.sl_headline.proofs.laws.quiet.events.grants_stay.Goals as goal

pub returns : goal.returns
returns c = grants_stay
