-- How often one line asks.
use Rattle.sl_run.specs.LvmPromises.{AsksAreFew}
use Rattle.sl_run.specs.Runs.{Happening}
use Rattle.sl_run.specs.Safety.{LawfulRun, world_at}
use Rattle.sl_run.specs.Worlds.{Program}
use Rattle.sl_run.specs.declared.header.Header.{Header}
use Rattle.std.specs.Prelude.{List}

-- In every lawful run an acquire is asked again at most so often for one line as the header has it.
abbrev pub AsksAreFewInRuns : Type 0
AsksAreFewInRuns = (p : Program) (h : Header) (xs : List Happening) → LawfulRun p h xs → AsksAreFew (world_at p h xs)
