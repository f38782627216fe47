use Rattle.sl_headline.proofs.Quiet.Area.PlacesStay.{places_stay}
use Rattle.sl_headline.proofs.laws.quiet.area.places_stay.Goals as goal

pub returns : goal.returns
returns c = places_stay
