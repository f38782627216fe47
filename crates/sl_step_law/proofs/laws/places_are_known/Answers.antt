use Rattle.sl_step_law.proofs.PlacesAreKnown as its
use Rattle.sl_step_law.proofs.laws.places_are_known.Goals as goal

pub returns : goal.returns
returns c = its.places_are_known
