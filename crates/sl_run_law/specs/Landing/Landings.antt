-- What landed, and which write left it.
use Rattle.sl_area.specs.AreaSizes.{sector_with}
use Rattle.sl_run.specs.Premises.{spells_something}
use Rattle.sl_run.specs.Runs.{Happening}
use Rattle.sl_run.specs.Safety.{LawfulRun, world_at}
use Rattle.sl_run.specs.Worlds.{Course, Landed, Landing, Machine, Program, Stamp, Torn, World, is_landed, is_write_course, machine_at}
use Rattle.sl_run.specs.declared.header.Header.{Header}
use Rattle.sl_sector.specs.declared.sector.Rec.{Rec}
use Rattle.sl_trace.specs.Traces.{record_of}
use Rattle.std.specs.Prelude.{AllPairs, Contains, IsTrue, List, Some, false, true, length, ℕ, ◌<◌, ◌≡◌, ◌≤◌, ◌⊎◌}

-- What a write that took effect whole, or in part, left. A torn sector spells nothing.
abbrev pub LeftBy : World → Landing → Course → Rec → Type 0
LeftBy w l c r =
    ((l.whole ≡ true) × (c.fate ≡ Landed) × (l.bytes ≡ sector_with w.layout r))
    ⊎ ((l.whole ≡ false) × (c.fate ≡ Torn) × (spells_something w l.bytes ≡ false))

-- Call n of machine m wrote this landing: it came after the call was made, and before it was answered.
pub record IsWrittenBy (w : World) (l : Landing) (m n : ℕ) : Type 0 where
  pub machine : Machine
  pub course : Course
  pub record_written : Rec
  pub at : machine_at w m ≡ Some machine
  pub has : Contains machine.calls course
  pub number : course.call.number ≡ n
  pub writes : record_of course.call.op ≡ Some record_written
  pub place : (course.call.path ≡ l.path) × (course.call.offset ≡ l.offset)
  pub after : (course.made.step < l.step) × (course.made.moment ≤ l.moment)
  pub before : (s : Stamp) → course.answered ≡ Some s → (l.step < s.step) × (l.moment ≤ s.moment)
  pub left : LeftBy w l course record_written

-- A landing with its writer.
pub record HasWriter (w : World) (l : Landing) : Type 0 where
  pub machine : ℕ
  pub call : ℕ
  pub named : l.writer ≡ Some (machine, call)
  pub wrote : IsWrittenBy w l machine call

-- Each landing since moment 0 was left by a write of a machine.
abbrev pub LandingsAreWritten : Type 0
LandingsAreWritten = (p : Program) (h : Header) (xs : List Happening) → LawfulRun p h xs → (l : Landing)
    → Contains (world_at p h xs).landings l → HasWriter (world_at p h xs) l

-- The newest stands first, and each came at a step of its own.
abbrev pub LandingsComeInOrder : Type 0
LandingsComeInOrder = (p : Program) (h : Header) (xs : List Happening) → LawfulRun p h xs
    → AllPairs (λ newer older. (older.step < newer.step) × (older.moment ≤ newer.moment)) (world_at p h xs).landings

-- A write lands once at most: two landings have two writers.
abbrev pub WritesLandOnce : Type 0
WritesLandOnce = (p : Program) (h : Header) (xs : List Happening) → LawfulRun p h xs
    → AllPairs (λ l k. l.writer ≡ k.writer → ⊥) (world_at p h xs).landings

-- A landing that this call left whole.
abbrev pub HasLanded : World → ℕ → Course → Type 0
HasLanded w m c = (l : Landing) × Contains w.landings l × (l.writer ≡ Some (m, c.call.number)) × (l.whole ≡ true)

-- A write that has landed has its landing.
abbrev pub LandedWritesAreThere : Type 0
LandedWritesAreThere = (p : Program) (h : Header) (xs : List Happening) → LawfulRun p h xs → (m : ℕ) (a : Machine) (c : Course)
    → machine_at (world_at p h xs) m ≡ Some a → Contains a.calls c → IsTrue (is_landed c.fate) → HasLanded (world_at p h xs) m c

-- A write that was answered ok has landed.
abbrev pub DoneWritesHaveLanded : Type 0
DoneWritesHaveLanded = (p : Program) (h : Header) (xs : List Happening) → LawfulRun p h xs → (m : ℕ) (a : Machine) (c : Course)
    → machine_at (world_at p h xs) m ≡ Some a → Contains a.calls c → c.done ≡ true → IsTrue (is_write_course c) → IsTrue (is_landed c.fate)

-- What lands are whole sectors.
abbrev pub LandingsAreSectors : Type 0
LandingsAreSectors = (p : Program) (h : Header) (xs : List Happening) → LawfulRun p h xs → (l : Landing)
    → Contains (world_at p h xs).landings l → length l.bytes ≡ (world_at p h xs).layout.sector
