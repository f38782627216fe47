-- Daemons that do what is due answer lvmlockd's locks what they asked.
use Rattle.sl_due.specs.Due.{IsHostTrace}
use Rattle.sl_run.specs.Lawful.{IsSetting}
use Rattle.sl_run.specs.Runs.{EachDaemon, Happening}
use Rattle.sl_run.specs.Safety.{LawfulRun, world_at}
use Rattle.sl_run.specs.Worlds.{Program}
use Rattle.sl_run.specs.declared.header.Header.{Header}
use Rattle.sl_trace.specs.Traces.{Setting, Trace}
use Rattle.sl_headline.specs.Volumes.FittingRuns.{AnsweredRun, ReadsAsks, ValueCallsFit}
use Rattle.std.specs.Prelude.{List}

-- Where a daemon does what is due, each call for a value is on the resource that its job's command names.
abbrev pub DueCallsFit : Type 0
DueCallsFit = (st : Setting) (es : Trace) → IsSetting st → IsHostTrace st es → ValueCallsFit st es

-- So in a lawful run in which each daemon does what is due, replies have their causes, and commands their calls.
abbrev pub DueRunsAreAnswered : Type 0
DueRunsAreAnswered =
    (p : Program) (h : Header) (xs : List Happening) → LawfulRun p h xs → ReadsAsks p h → EachDaemon IsHostTrace (world_at p h xs) →
    EachDaemon (λ st es. IsSetting st) (world_at p h xs) → AnsweredRun p h xs
