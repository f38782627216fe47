-- The whole program reads what lvmlockd's locks ask, so what they tell is held wherever its daemons do what is due.
use Rattle.sl_due.specs.Due.{IsHostTrace}
use Rattle.sl_run.specs.Lawful.{IsSetting}
use Rattle.sl_run.specs.Headers.{IsHeader}
use Rattle.sl_run.specs.LvmPromises.{LocksAreHeld}
use Rattle.sl_run.specs.Runs.{AfterEachFront, EachDaemon, Happening}
use Rattle.sl_run.specs.Safety.{LawfulRun, world_at}
use Rattle.sl_run.specs.Worlds.{whole_program}
use Rattle.sl_run.specs.declared.header.Header.{Header}
use Rattle.sl_headline.specs.Volumes.FittingRuns.{ReadsAsks}
use Rattle.std.specs.Prelude.{List}

-- It reads each ask as the command that it spells.
abbrev pub WholeProgramReads : Type 0
WholeProgramReads = (h : Header) → IsHeader h → ReadsAsks whole_program h

-- At each moment each lock that lvmlockd's lines tell is held, in each lawful run of the whole program whose daemons do what is due.
abbrev pub LocksAreHeldWhenDue : Type 0
LocksAreHeldWhenDue =
    (h : Header) (xs : List Happening) → LawfulRun whole_program h xs → EachDaemon IsHostTrace (world_at whole_program h xs) →
    EachDaemon (λ st es. IsSetting st) (world_at whole_program h xs) → AfterEachFront xs (λ now. LocksAreHeld (world_at whole_program h now))
