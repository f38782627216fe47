-- Laws are said of each entry with its past, so what is lawful has been lawful all along.
use Rattle.sl_run.specs.Caused.{IsCaused}
use Rattle.sl_run.specs.Lawful.{Lawful, Orderly}
use Rattle.sl_trace.specs.Traces.{Setting, Trace}
use Rattle.std.specs.Prelude.{◌++◌}

-- Each front of a lawful trace is lawful.
abbrev pub FrontsAreLawful : Type 0
FrontsAreLawful = (st : Setting) (later es : Trace) → Lawful st (later ++ es) → Lawful st es

-- Each front of an orderly trace is orderly.
abbrev pub FrontsAreOrderly : Type 0
FrontsAreOrderly = (st : Setting) (later es : Trace) → Orderly st (later ++ es) → Orderly st es

-- Each front of a trace whose replies have their causes is one.
abbrev pub FrontsAreCaused : Type 0
FrontsAreCaused = (st : Setting) (later es : Trace) → IsCaused st (later ++ es) → IsCaused st es
