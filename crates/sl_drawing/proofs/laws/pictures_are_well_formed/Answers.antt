use Rattle.sl_drawing.proofs.WellFormed.{pictures_are_well_formed}
use Rattle.sl_drawing.proofs.laws.pictures_are_well_formed.Goals as goal

pub returns : goal.returns
returns c = pictures_are_well_formed
