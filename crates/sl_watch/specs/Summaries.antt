-- What the sightings of an id come to, and what is kept of that. Each question to a watch is one to this summary, and a sighting
-- changes it by one step.
use Rattle.sl_area.specs.AreaSizes.{Layout, program_digest}
use Rattle.sl_sector.specs.SectorLayouts.{decoded, spelling}
use Rattle.sl_sector.specs.declared.sector.DeltaRec.{DeltaRec}
use Rattle.sl_sector.specs.declared.sector.Rec.TheVariants.{DeltaIs}
use Rattle.sl_trace.specs.Sightings.{current_run, has_seen, is_free_among, is_free_state, newest_of, run_with, seen_records, silence, state_of_run}
use Rattle.sl_trace.specs.declared.sighting.Run.{Run}
use Rattle.sl_trace.specs.declared.sighting.Sighting.{Sighting}
use Rattle.sl_time.specs.Times.{TimingNumbers}
use Rattle.sl_trace.specs.declared.reply.Evidence.TheVariants.{Freed, Newer}
use Rattle.sl_trace.specs.declared.reply.Evidence.{Evidence}
use Rattle.sl_trace.specs.declared.reply.HostState.TheVariants.{Unknown}
use Rattle.sl_trace.specs.declared.reply.HostState.{HostState}
use Rattle.sl_watch.specs.declared.run.KeptRun.{KeptRun}
use Rattle.sl_watch.specs.declared.summary.Summary.{Summary as Kept}
use Rattle.std.specs.Prelude.{Bool, List, None, Ok, Option, Some, false, if◌then◌else◌, max, nat_lt, option_map, true, [], ℕ, ◌&&◌, ◌==◌, ◌||◌, ◌≡◌}

-- What they come to.
pub record Summary : Type 0 where
  -- the greatest generation among the id's records
  pub newest : ℕ
  -- whether that generation was seen free
  pub freed : Bool
  -- whether there is a sighting
  pub any : Bool
  pub run : Option Run

-- Whether the greatest generation was seen free, with one more record.
abbrev pub freed_with : ℕ → Bool → DeltaRec → Bool
freed_with newest freed d = if nat_lt newest d.generation then is_free_state d.state
    else if newest == d.generation then is_free_state d.state || freed
    else freed

-- The summary with one more sighting, and the record of the id that it spells.
abbrev pub summary_with : Summary → Sighting → Option DeltaRec → Summary
summary_with m s None = record m { any = true; run = None }
summary_with m s (Some d) = record {
  newest = max d.generation m.newest;
  freed = freed_with m.newest m.freed d;
  any = true;
  run = Some (run_with m.run s d m.any);
}

-- The summary of these sightings of the id.
abbrev pub summary_of : Layout → ℕ → List Sighting → Summary
summary_of g id ss = record {
  newest = newest_of (seen_records g id ss);
  freed = is_free_among (newest_of (seen_records g id ss)) (seen_records g id ss);
  any = has_seen ss;
  run = current_run g id ss;
}

-- Why generation h counts as over, by the summary.
abbrev pub evidence_by : TimingNumbers → ℕ → Summary → Option Evidence
evidence_by tm h m =
    elim (nat_lt h m.newest) [
      | true ↦ Some (Newer m.newest)
      | false ↦ elim (m.newest == h && m.freed) [ true ↦ Some (Freed h) | false ↦ silence tm h m.run ]
    ]

-- What the id looks like at a reading, by its run.
abbrev pub state_by : TimingNumbers → Option Run → ℕ → HostState
state_by tm run now = elim run [ None ↦ Unknown | Some r ↦ state_of_run tm r now ]

-- ---- what is kept

-- Nothing seen.
abbrev pub nothing_seen : Kept
nothing_seen = record { newest = 0; freed = false; any = false; run = None }

-- The bytes of a sector of this size that spells the record.
abbrev pub bytes_with : ℕ → DeltaRec → List ℕ
bytes_with size d = spelling program_digest size (DeltaIs d)

-- The run that is kept, with its bytes.
abbrev pub whole_run : ℕ → KeptRun → Run
whole_run size k = record { spelled = k.spelled; bytes = bytes_with size k.spelled; since = k.since; latest = k.latest; changed = k.changed }

-- The summary that is kept, with the bytes of its run.
abbrev pub whole : ℕ → Kept → Summary
whole size k = record { newest = k.newest; freed = k.freed; any = k.any; run = option_map (whole_run size) k.run }

-- The same without bytes, for questions that don't ask them.
abbrev pub bare_run : KeptRun → Run
bare_run k = record { spelled = k.spelled; bytes = []; since = k.since; latest = k.latest; changed = k.changed }

abbrev pub bare : Kept → Summary
bare k = record { newest = k.newest; freed = k.freed; any = k.any; run = option_map bare_run k.run }

-- The run that is kept, and what is read from its bytes.
pub record IsKeptRun (size : ℕ) (k : KeptRun) (r : Run) : Type 0 where
  pub same : whole_run size k ≡ r
  pub read : decoded program_digest (bytes_with size k.spelled) ≡ Ok (DeltaIs k.spelled)

-- The same of what may be there.
abbrev pub RunStands : ℕ → Option KeptRun → Option Run → Type 0
RunStands size None None = Unit {0}
RunStands size (Some k) (Some r) = IsKeptRun size k r
RunStands size None (Some r) = ⊥
RunStands size (Some k) None = ⊥

-- What is kept of a summary.
pub record IsKept (size : ℕ) (k : Kept) (m : Summary) : Type 0 where
  pub newest : k.newest ≡ m.newest
  pub freed : k.freed ≡ m.freed
  pub any : k.any ≡ m.any
  pub run : RunStands size k.run m.run

-- A sector of this size that spells this delta record, if any, and is its spelling.
pub record IsSpelledBy (size : ℕ) (bytes : List ℕ) (d : DeltaRec) : Type 0 where
  pub read : decoded program_digest bytes ≡ Ok (DeltaIs d)
  pub spelled : bytes ≡ bytes_with size d

abbrev pub IsSeen : ℕ → List ℕ → Option DeltaRec → Type 0
IsSeen size bytes None = Unit {0}
IsSeen size bytes (Some d) = IsSpelledBy size bytes d
