-- What sightings show, and what they don't.
use Rattle.sl_area.specs.AreaSizes.{Layout, Sizes, layout_of, program_digest}
use Rattle.sl_sector.specs.Records.{AreBytes}
use Rattle.sl_sector.specs.SectorLayouts.{IsSectorSize, Spells}
use Rattle.sl_sector.specs.declared.sector.DeltaRec.{DeltaRec}
use Rattle.sl_sector.specs.declared.sector.DeltaState.TheVariants.{Claimed}
use Rattle.sl_sector.specs.declared.sector.Rec.TheVariants.{DeltaIs}
use Rattle.sl_trace.specs.Sightings.{current_run, evidence, host_state, new_run, seen_records, sighted, unchanged}
use Rattle.sl_trace.specs.declared.sighting.Run.{Run}
use Rattle.sl_trace.specs.declared.sighting.Sighting.{Sighting}
use Rattle.sl_time.specs.Times.{TimingNumbers}
use Rattle.sl_trace.specs.declared.reply.Evidence.TheVariants.{Silent}
use Rattle.sl_trace.specs.declared.reply.HostState.TheVariants.{Unknown}
use Rattle.sl_watch.specs.SeenLooks.{Seen, sightings_of}
use Rattle.sl_watch.specs.Watches.{IsReadTrue}
use Rattle.std.specs.List.{All}
use Rattle.std.specs.Prelude.{List, None, Some, true, ℕ, ◌∷◌, ◌≡◌, ◌≤◌, ◌↔◌}

-- A claim's writer may still join, so a claim that stands is no evidence, however long it stands.
pub record ClaimsAreNoEvidence : Type 0 where
  -- where nothing but claims was seen, none of a generation above it, there is no evidence against it
  pub alone : (tm : TimingNumbers) (g : Layout) (id h : ℕ) (ss : List Sighting)
      → All (λ d. (d.state ≡ Claimed) × (d.generation ≤ h)) (seen_records g id ss) → evidence tm g id h ss ≡ None
  -- whatever else was seen, the run of a claim is never told as silence
  pub standing : (tm : TimingNumbers) (g : Layout) (id h : ℕ) (ss : List Sighting) (r : Run) (from to : ℕ)
      → current_run g id ss ≡ Some r → r.spelled.state ≡ Claimed → evidence tm g id h ss ≡ Some (Silent from to) → ⊥

-- A torn sighting, one that spells no record of the id, ends every run: who wrote may have been alive when he did.
pub record TornEndsRuns : Type 0 where
  pub none : (g : Layout) (id : ℕ) (s : Sighting) (ss : List Sighting) → sighted g id s ≡ None → current_run g id (s ∷ ss) ≡ None
  pub still : (g : Layout) (id : ℕ) (s : Sighting) (ss : List Sighting) → sighted g id s ≡ None → unchanged g id (s ∷ ss) ≡ 0
  pub silent : (tm : TimingNumbers) (g : Layout) (id h : ℕ) (s : Sighting) (ss : List Sighting) (from to : ℕ)
      → sighted g id s ≡ None → evidence tm g id h (s ∷ ss) ≡ Some (Silent from to) → ⊥
  pub state : (tm : TimingNumbers) (g : Layout) (id : ℕ) (s : Sighting) (ss : List Sighting) (now : ℕ)
      → sighted g id s ≡ None → host_state tm g id (s ∷ ss) now ≡ Unknown
  -- the next sighting begins a run of its own, whatever bytes were seen before
  pub anew : (g : Layout) (id : ℕ) (s t : Sighting) (ss : List Sighting) (d : DeltaRec)
      → sighted g id s ≡ None → sighted g id t ≡ Some d → current_run g id (t ∷ s ∷ ss) ≡ Some (new_run t d true)

-- A sighting counts exactly where its bytes spell a delta record of the id.
abbrev pub SightedIsSpelled : Type 0
SightedIsSpelled =
    (sizes : Sizes) (n id : ℕ) (s : Sighting) (d : DeltaRec) → IsSectorSize n → AreBytes n s.bytes
    → (sighted (layout_of sizes) id s ≡ Some d) ↔ (Spells program_digest s.bytes (DeltaIs d) × (d.id ≡ id))

-- What was seen of one id says nothing of another.
abbrev pub OthersSayNothing : Type 0
OthersSayNothing = (id : ℕ) (x : Seen) (seen : List Seen) → (x.id ≡ id → ⊥) → sightings_of id (x ∷ seen) ≡ sightings_of id seen

-- Each list of bytes that is as long as a sector is read true.
abbrev pub BytesAreReadTrue : Type 0
BytesAreReadTrue = (n : ℕ) (bytes : List ℕ) → IsSectorSize n → AreBytes n bytes → IsReadTrue bytes
