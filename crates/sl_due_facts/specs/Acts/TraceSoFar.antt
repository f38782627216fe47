-- What holds at each moment of a step: the trace so far is orderly, as if nothing more came.
use Rattle.sl_due.specs.Steps.{Step, seen}
use Rattle.sl_run.specs.Lawful.{Orderly}
use Rattle.sl_trace.specs.declared.effects.Entry.{Entry}

-- The entry of a step in progress.
abbrev pub entry_of : Step → Entry
entry_of x = record { reading = x.reading; input = x.input; effects = x.effects }

-- A step so far.
abbrev pub SoFar : Step → Type 0
SoFar x = Orderly x.setting (seen x)
