use Rattle.sl_picture.proofs.DrawnElements.{kept_pictures_are_well_formed}
use Rattle.sl_picture.proofs.laws.kept_pictures_are_well_formed.Goals as goal

pub returns : goal.returns
returns c = kept_pictures_are_well_formed
