-- What safety says of logical volumes: the lock of a volume is a resource, and it is active where its lock is held.
use Rattle.sl_run.specs.Volumes.{VolumesAreExclusive}
use Rattle.sl_run.specs.Runs.{AfterEachFront, Happening}
use Rattle.sl_run.specs.Safety.{LawfulRun, world_at}
use Rattle.sl_run.specs.Worlds.{Program}
use Rattle.sl_run.specs.declared.header.Header.{Header}
use Rattle.std.specs.Prelude.{List}

-- No logical volume is active under one number of its area on two machines unless both have it shared, after every event.
abbrev pub VolumesExclude : Type 0
VolumesExclude = (p : Program) (h : Header) (xs : List Happening) → LawfulRun p h xs → AfterEachFront xs (λ now. VolumesAreExclusive (world_at p h now))
