-- The reasons for which a generation of an id counts as over, in words: what a watch has seen.
use Rattle.sl_area.specs.AreaSizes.{Sizes, layout_of}
use Rattle.sl_sector.specs.declared.sector.DeltaRec.{DeltaRec}
use Rattle.sl_sector.specs.declared.sector.DeltaState.TheVariants.{Free, Live}
use Rattle.sl_trace.specs.Sightings.{current_run, seen_records, span}
use Rattle.sl_trace.specs.declared.sighting.Run.{Run}
use Rattle.sl_time.specs.Times.{TimingNumbers, dead}
use Rattle.sl_trace.specs.declared.reply.Evidence.TheVariants.{Freed, Newer, Silent}
use Rattle.sl_trace.specs.declared.reply.Evidence.{Evidence}
use Rattle.sl_trace.specs.declared.sighting.Sighting.{Sighting}
use Rattle.std.specs.List.{All, Any}
use Rattle.std.specs.Option.{IsSomeAnd}
use Rattle.std.specs.Prelude.{List, Option, ℕ, ◌<◌, ◌≡◌, ◌≤◌}

-- The records of the id that were seen.
abbrev pub records_of : Sizes → ℕ → List Sighting → List DeltaRec
records_of z id ss = seen_records (layout_of z) id ss

-- The run of the id.
abbrev pub run_of : Sizes → ℕ → List Sighting → Option Run
run_of z id ss = current_run (layout_of z) id ss

-- A newer generation was seen.
abbrev pub SawNewer : Sizes → ℕ → ℕ → List Sighting → Type 0
SawNewer z id h ss = Any (λ d. h < d.generation) (records_of z id ss)

-- This generation was seen free.
abbrev pub SawFree : Sizes → ℕ → ℕ → List Sighting → Type 0
SawFree z id h ss = Any (λ d. (d.generation ≡ h) × (d.state ≡ Free)) (records_of z id ss)

-- The run is a live record of this generation that stood still for `dead`.
abbrev pub IsStill : TimingNumbers → ℕ → Run → Type 0
IsStill tm h r = (r.spelled.state ≡ Live) × (r.spelled.generation ≡ h) × (dead tm ≤ span r)

-- The id's live record of this generation stood still for `dead`.
abbrev pub StoodStill : TimingNumbers → Sizes → ℕ → ℕ → List Sighting → Type 0
StoodStill tm z id h ss = IsSomeAnd (run_of z id ss) (IsStill tm h)

-- The greatest generation of these records.
abbrev pub IsGreatest : ℕ → List DeltaRec → Type 0
IsGreatest n ds = Any (λ d. d.generation ≡ n) ds × All (λ d. d.generation ≤ n) ds

-- The first reason that holds: a newer generation, the greatest that was seen; else this one's free; else its silence, from the answer
-- of the run's first sighting to the submission of its last.
abbrev pub IsFirstReason : TimingNumbers → Sizes → ℕ → ℕ → List Sighting → Evidence → Type 0
IsFirstReason tm z id h ss (Newer n) = (h < n) × IsGreatest n (records_of z id ss)
IsFirstReason tm z id h ss (Freed n) = (n ≡ h) × SawFree z id h ss × (SawNewer z id h ss → ⊥)
IsFirstReason tm z id h ss (Silent from to) =
    IsSomeAnd (run_of z id ss) (λ r. (from ≡ r.since) × (to ≡ r.latest) × IsStill tm h r) × (SawFree z id h ss → ⊥) × (SawNewer z id h ss → ⊥)
