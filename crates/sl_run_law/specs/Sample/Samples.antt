-- What a read shows: of each sector the landing that was the newest when it was sampled.
use Rattle.sl_area.specs.AreaLayout.{sector_of}
use Rattle.sl_run.specs.Refusals.{is_read_course, sectors_of}
use Rattle.sl_run.specs.Runs.{Happening}
use Rattle.sl_run.specs.Safety.{LawfulRun, world_at}
use Rattle.sl_run.specs.Worlds.{Course, Landing, Machine, Program, Sampling, Stamp, World, history_of, machine_at}
use Rattle.sl_run.specs.declared.header.Header.{Header}
use Rattle.std.specs.Prelude.{Contains, IsTrue, List, Option, Some, None, false, length, slice_get, true, [], ℕ, ◌*◌, ◌+◌, ◌<◌, ◌==◌, ◌∷◌, ◌≡◌, ◌≤◌}

-- Landing number i of a place, counted from 0 for what stood there at first; the newest stands first.
abbrev pub numbered_landing : List Landing → ℕ → Option Landing
numbered_landing [] i = None
numbered_landing (l ∷ ls) i = elim (i == length ls) [ true ↦ Some l | false ↦ numbered_landing ls i ]

-- The place of the call's sector k.
abbrev pub sector_place : World → Course → ℕ → ℕ
sector_place w c k = c.call.offset + k * w.layout.sector

-- The sample of the call's sector k: the landing that it saw, when, and that no later one had come by then.
pub record IsSampleOf (w : World) (c : Course) (k : ℕ) (s : Sampling) : Type 0 where
  pub landing : Landing
  pub seen : numbered_landing (history_of w c.call.path (sector_place w c k)) s.index ≡ Some landing
  pub bytes : sector_of w.layout c.sampled k ≡ landing.bytes
  pub newest : (landing.step < s.step) × (landing.moment ≤ s.moment)
  pub before_next : (i : ℕ) (l : Landing) → numbered_landing (history_of w c.call.path (sector_place w c k)) i ≡ Some l → s.index < i
      → (s.step < l.step) × (s.moment ≤ l.moment)
  pub after : (c.made.step < s.step) × (c.made.moment ≤ s.moment)
  pub before : (t : Stamp) → c.answered ≡ Some t → (s.step < t.step) × (s.moment ≤ t.moment)

-- Sectors are sampled in rising order: a further one no earlier.
abbrev pub SampledInOrder : Course → Type 0
SampledInOrder c = (j k : ℕ) (s t : Sampling) → slice_get c.samples j ≡ Some s → slice_get c.samples k ≡ Some t → j ≤ k → s.step ≤ t.step

abbrev pub SamplesComeInOrder : Type 0
SamplesComeInOrder = (p : Program) (h : Header) (xs : List Happening) → LawfulRun p h xs → (m : ℕ) (a : Machine) (c : Course)
    → machine_at (world_at p h xs) m ≡ Some a → Contains a.calls c → SampledInOrder c

-- Each sample of each call shows a landing.
abbrev pub SamplesAreLandings : Type 0
SamplesAreLandings = (p : Program) (h : Header) (xs : List Happening) → LawfulRun p h xs → (m : ℕ) (a : Machine) (c : Course) (k : ℕ) (s : Sampling)
    → machine_at (world_at p h xs) m ≡ Some a → Contains a.calls c → slice_get c.samples k ≡ Some s → IsSampleOf (world_at p h xs) c k s

-- A read has as many bytes as it has samples.
abbrev pub SampledAreSectors : Type 0
SampledAreSectors = (p : Program) (h : Header) (xs : List Happening) → LawfulRun p h xs → (m : ℕ) (a : Machine) (c : Course)
    → machine_at (world_at p h xs) m ≡ Some a → Contains a.calls c → (length c.sampled ≡ length c.samples * (world_at p h xs).layout.sector)
    × (length c.samples ≤ sectors_of c.call.op)

-- A read that was answered ok has all its samples.
abbrev pub DoneReadsAreWhole : Type 0
DoneReadsAreWhole = (p : Program) (h : Header) (xs : List Happening) → LawfulRun p h xs → (m : ℕ) (a : Machine) (c : Course)
    → machine_at (world_at p h xs) m ≡ Some a → Contains a.calls c → c.done ≡ true → IsTrue (is_read_course c) → length c.samples ≡ sectors_of c.call.op
