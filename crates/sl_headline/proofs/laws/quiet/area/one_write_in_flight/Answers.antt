use Rattle.sl_headline.proofs.Quiet.Area.CalmGoesOn.{one_write_in_flight}
use Rattle.sl_headline.proofs.laws.quiet.area.one_write_in_flight.Goals as goal

pub returns : goal.returns
returns c = one_write_in_flight
