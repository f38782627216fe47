-- What lvmlockd is told of a group's value that it reads again, and all that holds of its locks.
use Rattle.sl_run.specs.LvmPromises.{SameIsUnchanged, VolumesAreSafe}
use Rattle.sl_run.specs.Runs.{EachDaemon, Happening}
use Rattle.sl_run.specs.Safety.{LawfulRun, world_at}
use Rattle.sl_run.specs.Worlds.{Program}
use Rattle.sl_run.specs.declared.header.Header.{Header}
use Rattle.sl_due.specs.Due.{IsHostTrace}
use Rattle.sl_run.specs.Lawful.{IsSetting}
use Rattle.sl_headline.specs.Volumes.FittingRuns.{AnsweredRun, ReadsAsks}
use Rattle.std.specs.Prelude.{List}

-- Where `ok same` is told, no other machine's write of the group's value was answered ok since the version that is known was told.
abbrev pub SameIsUnchangedInRuns : Type 0
SameIsUnchangedInRuns = (p : Program) (h : Header) (xs : List Happening) → AnsweredRun p h xs → SameIsUnchanged p h xs

-- So in each such run lvmlockd's locks keep to all that is said of them: no volume is active, or told to be, on two machines unless both share
-- it, a line asks few times, what is told is held, and what is told to be the same is unchanged.
abbrev pub VolumesAreSafeInRuns : Type 0
VolumesAreSafeInRuns = (p : Program) (h : Header) (xs : List Happening) → AnsweredRun p h xs → VolumesAreSafe p h xs

-- .. and so they do in each lawful run of a program that reads their asks, where its daemons do what is due.
abbrev pub VolumesAreSafeWhenDue : Type 0
VolumesAreSafeWhenDue =
    (p : Program) (h : Header) (xs : List Happening) → LawfulRun p h xs → ReadsAsks p h → EachDaemon IsHostTrace (world_at p h xs) →
    EachDaemon (λ st es. IsSetting st) (world_at p h xs) → VolumesAreSafe p h xs
