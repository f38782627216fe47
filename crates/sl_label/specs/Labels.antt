-- The label of a lockspace's area: what all hosts of the area must have in common, as a text, which stands as the bytes of a value in the area's last sector.
use Rattle.sl_area.specs.AreaSizes.{IsGeometry}
use Rattle.sl_label.specs.declared.label.Label.{Label}
use Rattle.sl_sector.specs.SectorLayouts.{value_in}
use Rattle.sl_sector.specs.declared.sector.Bad.{Bad}
use Rattle.sl_sector.specs.declared.sector.Rec.TheVariants.{ValueIs}
use Rattle.sl_sector.specs.declared.sector.Rec.{Rec}
use Rattle.sl_text.specs.Forms.{spaced}
use Rattle.sl_text.specs.Names.{is_name}
use Rattle.sl_time.specs.Times.{IsTiming}
use Rattle.std.specs.Prelude.{Bool, IsTrue, List, Option, Result, bytes_eq, codes, decimal, length, option_map, take, [], ℕ, ◌++◌, ◌/◌, ◌∷◌, ◌≡◌, ◌≤◌}

-- What a label may say.
pub record IsLabel (l : Label) : Type 0 where
  pub timing : IsTiming l.timing
  pub grace : l.grace ≤ 600000
  pub geometry : IsGeometry l.geometry
  pub named : IsTrue (is_name l.lockspace)

-- `time IO FIRE LAND RHO GRACE`
abbrev pub time_words : Label → List (List ℕ)
time_words l =
    codes "time" ∷ decimal l.timing.io ∷ decimal l.timing.fire ∷ decimal l.timing.land ∷ decimal l.timing.rho ∷ decimal l.grace ∷ []

-- `ids N geometry SECTOR MIB lockspace NAME`
abbrev pub area_words : Label → List (List ℕ)
area_words l =
    codes "ids" ∷ decimal l.geometry.hosts ∷ codes "geometry" ∷ decimal l.geometry.sector ∷ decimal (l.geometry.area / 1048576)
    ∷ codes "lockspace" ∷ l.lockspace ∷ []

-- The text of its times, and that of all of it.
abbrev pub time_text : Label → List ℕ
time_text l = spaced (time_words l)

abbrev pub label_text : Label → List ℕ
label_text l = time_text l ++ 32 ∷ spaced (area_words l)

-- The value whose bytes it is.
abbrev pub label_record : Label → Rec
label_record l = ValueIs (record { host = 0; lver = 0; seq = 0; bytes = label_text l })

-- The text that stands where a sector spells a value: its bytes.
abbrev pub label_in : Result Rec Bad → Option (List ℕ)
label_in found = option_map (λ v. v.bytes) (value_in found)

-- Whether a text begins as that of a label with these times.
abbrev pub has_time : Label → List ℕ → Bool
has_time l text = bytes_eq (take (length (time_text l ++ 32 ∷ [])) text) (time_text l ++ 32 ∷ [])
