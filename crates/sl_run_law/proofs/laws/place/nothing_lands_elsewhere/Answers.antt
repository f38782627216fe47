use Rattle.sl_run_law.proofs.Place.PlaceLaws.{nothing_lands_elsewhere}
use Rattle.sl_run_law.proofs.laws.place.nothing_lands_elsewhere.Goals as goal

pub returns : goal.returns
returns c = nothing_lands_elsewhere
