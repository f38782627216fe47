use Rattle.sl_reader.proofs.script_reading.read_on.Given as goal
use Rattle.sl_reader.specs.ScriptReading.{Passes, ScriptLine}
use Rattle.sl_report.specs.Schedules.{greatest_source}
use Rattle.sl_reader.specs.LineReads.{EndStands, ReaderState}
use Rattle.std.proofs.Common.{List, Option, ℕ, ◌-◌, ◌≤◌}

abbrev pub invariant-loop-error : goal.invariant-loop-error
invariant-loop-error g l = record {
  passes : (first : Option (List ℕ)) (began : ReaderState) (told : List ScriptLine) → Passes l.fn.scope first (g.S.Source.left l.fn.source) began l.fn.reader told
      → Passes l.fn.scope first (g.S.Source.left l.source) began l.reader told;
  stands : EndStands (g.S.Source.left l.source) l.reader;
  later : g.S.Source.faults l.fn.source ≤ g.S.Source.faults l.source;
}

abbrev pub decreases-loop-error : goal.decreases-loop-error
decreases-loop-error g l = greatest_source - l.reader.behind
