use Rattle.sl_report.specs.HeaderLines.{HeaderLine}
use Rattle.sl_report.specs.Schedules.{greatest_source}
use Rattle.sl_schedule.specs.HeadersSoFar.{Stands}
use Rattle.sl_draw.proofs.TitledHeaders.{IsTitled}
use Rattle.sl_draw.proofs.header.read_header.Given as goal
use Rattle.sl_reader.specs.LineReads.{EndStands}
use Rattle.std.proofs.Common.{List, ◌-◌, ◌≤◌}

abbrev pub invariant-loop-header : goal.invariant-loop-header
invariant-loop-header g l = record {
  within : (ls : List HeaderLine) × Stands l.header ls × IsTitled (g.S.Source.left l.fn.source) (g.S.Source.left l.source) l.reader l.caption.items ls;
  stands : EndStands (g.S.Source.left l.source) l.reader;
  later : g.S.Source.faults l.fn.source ≤ g.S.Source.faults l.source;
}

abbrev pub decreases-loop-header : goal.decreases-loop-header
decreases-loop-header g l = greatest_source - l.reader.behind
