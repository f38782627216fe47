-- Of each group one version is known.
use Rattle.sl_run.specs.Lvm.{Lvm, SeenValue}
use Rattle.sl_run.specs.Runs.{Happening}
use Rattle.sl_run.specs.Safety.{LawfulRun, world_at}
use Rattle.sl_run.specs.Worlds.{Machine, Program, machine_at}
use Rattle.sl_run.specs.declared.header.Header.{Header}
use Rattle.std.specs.Prelude.{Contains, List, Some, ℕ, ◌≡◌}

-- Two versions of one group are one.
abbrev pub OneVersion : Lvm → Type 0
OneVersion m = (v u : SeenValue) → Contains m.seen v → Contains m.seen u → v.group ≡ u.group → v ≡ u

-- So it is with each machine's locks after every lawful run.
abbrev pub VersionsAreKnownOnce : Type 0
VersionsAreKnownOnce = (p : Program) (h : Header) (xs : List Happening) → LawfulRun p h xs → (m : ℕ) (a : Machine) → machine_at (world_at p h xs) m ≡ Some a → OneVersion a.locks.lvm
