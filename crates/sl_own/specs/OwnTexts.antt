-- The lines that say why a machine can't run where it is to.
use Rattle.sl_own.specs.declared.no_place.NoPlace.TheVariants.{FolderInUse, MachineInUse, NoDisk, NotStanding, OtherSize}
use Rattle.sl_own.specs.declared.no_place.NoPlace.{NoPlace}
use Rattle.sl_standing.specs.StandingTexts.{difference_text}
use Rattle.sl_text.specs.Forms.{spaced}
use Rattle.std.specs.Prelude.{List, codes, decimal, [], ℕ, ◌++◌, ◌∷◌}

-- With its line feed. Of want of memory nothing is told.
abbrev pub no_place_text : NoPlace → List ℕ
no_place_text FolderInUse = codes "folder in use" ++ 10 ∷ []
no_place_text (MachineInUse machine) = spaced (codes "machine in use" ∷ decimal machine ∷ []) ++ 10 ∷ []
no_place_text (NoDisk path) = codes "disk missing " ++ path ++ 10 ∷ []
no_place_text (OtherSize path bytes) = spaced (codes "disk size" ∷ path ∷ decimal bytes ∷ []) ++ 10 ∷ []
no_place_text (NotStanding why) = difference_text why
