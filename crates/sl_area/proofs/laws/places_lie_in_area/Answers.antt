use Rattle.sl_area.proofs.SizeLaws.{places_lie_in_area}
use Rattle.sl_area.proofs.laws.places_lie_in_area.Goals as goal

pub returns : goal.returns
returns c = places_lie_in_area
