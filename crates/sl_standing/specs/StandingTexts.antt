-- The lines that say how an area differs from what a header says of it.
use Rattle.sl_standing.specs.declared.not_standing.NotStanding.TheVariants.{AreaFault, NoLabel, NoLeader, NoMemory, OtherFormat, OtherLabel, OtherLeader, OtherTime}
use Rattle.sl_standing.specs.declared.not_standing.NotStanding.{NotStanding}
use Rattle.sl_text.specs.Forms.{coloned, spaced}
use Rattle.std.specs.Prelude.{List, codes, decimal, if◌then◌else◌, [], ℕ, ◌++◌, ◌∷◌}

-- A resource's name behind that of its lockspace.
abbrev pub resource_name : List ℕ → List ℕ → List ℕ
resource_name lockspace resource = coloned (lockspace ∷ resource ∷ [])

-- The words of a difference.
abbrev pub difference_words : NotStanding → List (List ℕ)
difference_words AreaFault = codes "area" ∷ codes "fault" ∷ []
difference_words NoMemory = []
difference_words (NoLabel l) = codes "no" ∷ codes "label" ∷ l ∷ []
difference_words (OtherTime l text) = codes "other" ∷ codes "time" ∷ l ∷ text ∷ []
difference_words (OtherLabel l text) = codes "other" ∷ codes "label" ∷ l ∷ text ∷ []
difference_words (NoLeader l r) = codes "no" ∷ codes "leader" ∷ resource_name l r ∷ []
difference_words (OtherLeader l r x) = codes "other" ∷ codes "leader" ∷ resource_name l r ∷ x.lockspace ∷ x.resource ∷ decimal x.num_hosts ∷ []
difference_words (OtherFormat l r paired) = codes "other" ∷ codes "format" ∷ resource_name l r ∷ decimal (if paired then 2 else 1) ∷ []

-- Its line, with its line feed; of want of memory nothing is told.
abbrev pub difference_text : NotStanding → List ℕ
difference_text NoMemory = []
difference_text d = spaced (difference_words d) ++ 10 ∷ []
