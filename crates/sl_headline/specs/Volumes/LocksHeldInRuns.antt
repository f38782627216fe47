-- What is held of the locks that lvmlockd's lines tell.
use Rattle.sl_headline.specs.Volumes.FittingRuns.{AnsweredRun}
use Rattle.sl_run.specs.LvmPromises.{LocksAreHeld, ToldVolumesAreExclusive}
use Rattle.sl_run.specs.Runs.{AfterEachFront, Happening}
use Rattle.sl_run.specs.Safety.{world_at}
use Rattle.sl_run.specs.Worlds.{Program}
use Rattle.sl_run.specs.declared.header.Header.{Header}
use Rattle.std.specs.Prelude.{List}

-- At each moment of such a run each lock that a machine's table has is a holding of the machine, in the lock's mode.
abbrev pub LocksAreHeldInRuns : Type 0
LocksAreHeldInRuns =
    (p : Program) (h : Header) (xs : List Happening) → AnsweredRun p h xs → AfterEachFront xs (λ now. LocksAreHeld (world_at p h now))

-- So no logical volume is told active on two machines at any moment, unless both share it.
abbrev pub ToldVolumesExcludeInRuns : Type 0
ToldVolumesExcludeInRuns =
    (p : Program) (h : Header) (xs : List Happening) → AnsweredRun p h xs → AfterEachFront xs (λ now. ToldVolumesAreExclusive (world_at p h now))
