-- The world at moment 0.
use Rattle.sl_run.specs.Conflicts.{IsExclusive}
use Rattle.sl_run.specs.Runs.{IsRun}
use Rattle.sl_run.specs.Worlds.{Program, World, world_with}
use Rattle.sl_run.specs.declared.header.Header.{Header}
use Rattle.std.specs.Prelude.{[]}

-- Nothing is held at moment 0, so nothing conflicts.
abbrev pub NothingIsHeldAtFirst : Type 0
NothingIsHeldAtFirst = (p : Program) (h : Header) → IsExclusive (world_with p h)

-- The run of no event is one.
abbrev pub NothingIsARun : Type 0
NothingIsARun = (w : World) → IsRun w []
