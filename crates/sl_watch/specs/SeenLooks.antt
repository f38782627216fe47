-- What a watch has seen: looks at ids' sectors, the newest first.
use Rattle.sl_area.specs.AreaSizes.{program_digest}
use Rattle.sl_sector.specs.SectorLayouts.{decoded, delta_in}
use Rattle.sl_sector.specs.declared.sector.DeltaRec.{DeltaRec}
use Rattle.sl_trace.specs.declared.sighting.Sighting.{Sighting}
use Rattle.sl_words.specs.Words.{choose}
use Rattle.std.specs.Prelude.{List, Option, false, filter_map, option_and_then, true, ℕ, ◌==◌, ◌∷◌}

-- One look at an id's sector.
pub record Seen : Type 0 where
  pub id : ℕ
  pub sighting : Sighting

-- A look at an id: readings before and after, and the sector's bytes.
abbrev pub seen_at : ℕ → ℕ → ℕ → List ℕ → Seen
seen_at id before after bytes = record { id = id; sighting = record { before = before; after = after; bytes = bytes } }

-- The sighting, where the look was at this id.
abbrev pub sighting_at : ℕ → Seen → Option Sighting
sighting_at id s = choose (s.id == id) s.sighting

-- The sightings of the id among them, the newest first.
abbrev pub sightings_of : ℕ → List Seen → List Sighting
sightings_of id seen = filter_map (sighting_at id) seen

-- The delta record of that id that a sector spells.
abbrev pub spelled_for : ℕ → List ℕ → Option DeltaRec
spelled_for id bytes = option_and_then (λ d. choose (d.id == id) d) (delta_in (decoded program_digest bytes))

-- The sightings of each id, with one more of one of them.
abbrev pub seen_with : ℕ → Sighting → (ℕ → List Sighting) → ℕ → List Sighting
seen_with id s seen j = elim (j == id) [ true ↦ s ∷ seen j | false ↦ seen j ]
