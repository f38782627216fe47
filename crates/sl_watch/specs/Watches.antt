-- What a watch keeps, and for what it stands.
use Rattle.sl_area.specs.AreaSizes.{Sizes, layout_of, program_digest}
use Rattle.sl_sector.specs.SectorLayouts.{decoded, spelling}
use Rattle.sl_sector.specs.declared.sector.Rec.{Rec}
use Rattle.sl_trace.specs.declared.sighting.Sighting.{Sighting}
use Rattle.sl_time.specs.Times.{TimingNumbers}
use Rattle.sl_watch.specs.SeenLooks.{Seen, sightings_of}
use Rattle.sl_watch.specs.Summaries.{IsKept, nothing_seen, summary_of}
use Rattle.sl_watch.specs.declared.summary.Summary.{Summary as Kept}
use Rattle.std.specs.Prelude.{List, Ok, length, slice_index_or, ℕ, ◌-◌, ◌≡◌, ◌≤◌}

-- The times and sizes of the run, and of each id what its sightings come to.
pub record Watched : Type 0 where
  pub timing : TimingNumbers
  pub sizes : Sizes
  pub ids : List Kept

-- What is kept of an id.
abbrev pub kept_at : Watched → ℕ → Kept
kept_at w id = slice_index_or w.ids (id - 1) nothing_seen

-- The watch stands for these sightings of each id, the newest first: what is kept of an id is what its sightings come to.
pub record WatchStands (w : Watched) (seen : ℕ → List Sighting) : Type 0 where
  pub each : (id : ℕ) → 1 ≤ id → id ≤ w.sizes.hosts → IsKept w.sizes.sector (kept_at w id) (summary_of (layout_of w.sizes) id (seen id))

-- The watch stands for a list of looks, the newest first.
abbrev pub StandsFor : Watched → List Seen → Type 0
StandsFor w looks = WatchStands w (λ id. sightings_of id looks)

-- The record that is read from the bytes, if one is, is spelled by them. So it is of every list of bytes below 256.
pub record IsReadTrue (bytes : List ℕ) : Type 0 where
  pub spelled : (r : Rec) → decoded program_digest bytes ≡ Ok r → bytes ≡ spelling program_digest (length bytes) r
