-- What a lawful run promises of the calls and daemons of its machines.
use Rattle.sl_run_law.specs.Course.Mirrors.{IsOfWorld, Mirrors, NamesAreApart}
use Rattle.sl_run_law.specs.Course.CallStamps.{AreCalls, IsStamped}
use Rattle.sl_run.specs.Runs.{Happening}
use Rattle.sl_run.specs.Safety.{LawfulRun, world_at}
use Rattle.sl_run.specs.Worlds.{Course, Daemon, Machine, Program, daemons_on, machine_at, world_with}
use Rattle.sl_run.specs.declared.header.Header.{Header}
use Rattle.sl_run_law.specs.FatesStay.{DistinctAlong}
use Rattle.std.specs.Prelude.{Contains, List, Some, ℕ, ◌≡◌}

-- What is said of each daemon of a lawful run, on its machine.
abbrev pub OfEachDaemon : (Machine → Daemon → Type 0) → Type 0
OfEachDaemon P = (p : Program) (h : Header) (xs : List Happening) → LawfulRun p h xs → (m : ℕ) (a : Machine) (d : Daemon)
    → machine_at (world_at p h xs) m ≡ Some a → Contains (daemons_on a) d → P a d

-- Each entry of a daemon has its stamp.
abbrev pub EntriesAreStamped : Type 0
EntriesAreStamped = OfEachDaemon (λ a d. IsStamped d)

-- A machine's calls of a daemon are those of its trace.
abbrev pub CoursesAreCalls : Type 0
CoursesAreCalls = OfEachDaemon AreCalls

-- Each call of a machine is one of a daemon of it.
abbrev pub CoursesHaveDaemons : Type 0
CoursesHaveDaemons = (p : Program) (h : Header) (xs : List Happening) → LawfulRun p h xs → (m : ℕ) (a : Machine) (c : Course)
    → machine_at (world_at p h xs) m ≡ Some a → Contains a.calls c → (d : Daemon) × Contains (daemons_on a) d × (d.number ≡ c.daemon)

-- Numbers of a machine's calls are different, before each event and after the last.
abbrev pub CallsAreDistinct : Type 0
CallsAreDistinct = (p : Program) (h : Header) (xs : List Happening) → LawfulRun p h xs → DistinctAlong (world_with p h) xs

-- A machine keeps of its daemons what it should.
abbrev pub MachinesMirror : Type 0
MachinesMirror = (p : Program) (h : Header) (xs : List Happening) → LawfulRun p h xs → (m : ℕ) (a : Machine)
    → machine_at (world_at p h xs) m ≡ Some a → Mirrors a

-- Each daemon is made of the header's times and layout.
abbrev pub DaemonsAreOfWorld : Type 0
DaemonsAreOfWorld = (p : Program) (h : Header) (xs : List Happening) → LawfulRun p h xs → (m : ℕ) (a : Machine) (d : Daemon)
    → machine_at (world_at p h xs) m ≡ Some a → Contains (daemons_on a) d → IsOfWorld (world_at p h xs) m d

-- No two daemons share a name.
abbrev pub DaemonNamesAreApart : Type 0
DaemonNamesAreApart = (p : Program) (h : Header) (xs : List Happening) → LawfulRun p h xs → NamesAreApart (world_at p h xs)
