-- That what is written of what is kept is a well-formed picture, whatever its caption, whatever is kept and whatever bytes its texts have.
use Rattle.sl_drawing.specs.WellFormed.{IsPicture}
use Rattle.sl_picture.specs.Kept.{Kept}
use Rattle.sl_picture.specs.Page.{picture_of}
use Rattle.std.specs.Prelude.{List, ℕ}

abbrev pub KeptPicturesAreWellFormed : Type 0
KeptPicturesAreWellFormed = (caption : List (List ℕ)) (k : Kept) (last : List ℕ) → IsPicture (picture_of caption k last)
