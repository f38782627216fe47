-- What a look makes of what a watch keeps: its state functions. A law says that they follow the sightings; a method says that it makes
-- this change.
use Rattle.sl_area.specs.AreaSizes.{Layout, layout_of, Sizes}
use Rattle.sl_area.specs.AreaLayout.{read_at, sector_of}
use Rattle.sl_sector.specs.FieldBytes.{delta_code}
use Rattle.sl_sector.specs.SectorLayouts.{delta_in}
use Rattle.sl_sector.specs.declared.sector.Bad.{Bad}
use Rattle.sl_sector.specs.declared.sector.DeltaRec.{DeltaRec}
use Rattle.sl_sector.specs.declared.sector.Rec.{Rec}
use Rattle.sl_trace.specs.declared.sighting.Sighting.{Sighting}
use Rattle.sl_time.specs.Times.{TimingNumbers}
use Rattle.sl_watch.specs.Summaries.{freed_with, nothing_seen}
use Rattle.sl_watch.specs.Watches.{IsReadTrue, WatchStands, Watched, kept_at}
use Rattle.sl_watch.specs.declared.run.KeptRun.{KeptRun}
use Rattle.sl_watch.specs.declared.summary.Summary.{Summary as Kept}
use Rattle.sl_words.specs.Words.{choose}
use Rattle.std.specs.List.{range_with_len}
use Rattle.std.specs.Prelude.{Bool, List, None, Option, Result, Some, bytes_eq, cond, false, fold, length, max, option_and_then, replicate, slice_set, true, [], ℕ, ◌&&◌, ◌-◌, ◌==◌, ◌∷◌, ◌≡◌, ◌≤◌}

-- Whether two hosts' names are one.
abbrev pub same_host : Option (List ℕ) → Option (List ℕ) → Bool
same_host None None = true
same_host None (Some b) = false
same_host (Some a) None = false
same_host (Some a) (Some b) = bytes_eq a b

-- Whether two records are one.
unfoldable pub same_delta : DeltaRec → DeltaRec → Bool
same_delta a b =
    delta_code a.state == delta_code b.state && (a.id == b.id && (a.generation == b.generation && (a.seq == b.seq && (a.stamp == b.stamp
    && (bytes_eq a.lockspace b.lockspace && (same_host a.host b.host && bytes_eq a.bitmap b.bitmap))))))

-- The run of a sighting alone.
abbrev pub begun_run : ℕ → ℕ → DeltaRec → Bool → KeptRun
begun_run before after d changed = record { spelled = d; since = after; latest = before; changed = changed }

-- The run after a sighting that spells this record.
abbrev pub kept_run_with : Option KeptRun → ℕ → ℕ → DeltaRec → Bool → KeptRun
kept_run_with None before after d changed = begun_run before after d changed
kept_run_with (Some r) before after d changed = cond (same_delta r.spelled d) (record r { latest = before }) (begun_run before after d changed)

-- What is kept of an id after a sighting, by the record of it that is spelled.
abbrev pub kept_with : Kept → ℕ → ℕ → Option DeltaRec → Kept
kept_with k before after None = record k { any = true; run = None }
kept_with k before after (Some d) =
    record {
      newest = max d.generation k.newest;
      freed = freed_with k.newest k.freed d;
      any = true;
      run = Some (kept_run_with k.run before after d k.any);
    }

-- The delta record of the id among what is read.
abbrev pub delta_found : ℕ → Result Rec Bad → Option DeltaRec
delta_found id found = option_and_then (λ d. choose (d.id == id) d) (delta_in found)

-- The watch is told what a look at an id has found.
abbrev pub told_at : ℕ → ℕ → ℕ → Result Rec Bad → Watched → Watched
told_at before after id found w = record w { ids = slice_set w.ids (id - 1) (kept_with (kept_at w id) before after (delta_found id found)) }

-- It is told of these ids.
abbrev pub told_of : ℕ → ℕ → (ℕ → Result Rec Bad) → List ℕ → Watched → Watched
told_of before after found ids w = fold (λ v id. told_at before after id (found id) v) w ids

-- It is told of all, by a read of their sectors.
abbrev pub told_all : ℕ → ℕ → Layout → List ℕ → Watched → Watched
told_all before after g bytes w = told_of before after (λ id. read_at g bytes (id - 1)) (range_with_len 1 w.sizes.hosts) w

-- A watch that has seen nothing.
abbrev pub blank_watch : TimingNumbers → Sizes → Watched
blank_watch timing sizes = record { timing = timing; sizes = sizes; ids = replicate sizes.hosts nothing_seen }

-- ---- the laws

-- Each sector of such a read is as long as a sector, and read true.
pub record AreTrue (z : Sizes) (bytes : List ℕ) : Type 0 where
  pub long : (id : ℕ) → 1 ≤ id → id ≤ z.hosts → length (sector_of (layout_of z) bytes (id - 1)) ≡ z.sector
  pub true_read : (id : ℕ) → 1 ≤ id → id ≤ z.hosts → IsReadTrue (sector_of (layout_of z) bytes (id - 1))

-- The look at an id that such a read is.
abbrev pub look_at : ℕ → ℕ → Layout → List ℕ → ℕ → Sighting
look_at before after g bytes id = record { before = before; after = after; bytes = sector_of g bytes (id - 1) }

-- A watch that is told stands for the longer sightings.
pub record WatchesAreTold : Type 0 where
  pub blank : (timing : TimingNumbers) (sizes : Sizes) → WatchStands (blank_watch timing sizes) (λ id. [])
  pub all : (w : Watched) (seen : ℕ → List Sighting) (before after : ℕ) (bytes : List ℕ) → WatchStands w seen → length w.ids ≡ w.sizes.hosts → AreTrue w.sizes bytes
      → WatchStands (told_all before after (layout_of w.sizes) bytes w) (λ id. look_at before after (layout_of w.sizes) bytes id ∷ seen id)
  -- times, sizes and the number of ids stay
  pub timing : (w : Watched) (before after : ℕ) (g : Layout) (bytes : List ℕ) → (told_all before after g bytes w).timing ≡ w.timing
  pub sizes : (w : Watched) (before after : ℕ) (g : Layout) (bytes : List ℕ) → (told_all before after g bytes w).sizes ≡ w.sizes
  pub count : (w : Watched) (before after : ℕ) (g : Layout) (bytes : List ℕ) → length (told_all before after g bytes w).ids ≡ length w.ids
