use Rattle.sl_report.specs.Languages.{whole_language}
use Rattle.sl_report.specs.HeaderLines.{HeaderLine}
use Rattle.sl_report.specs.Schedules.{read_header}
use Rattle.sl_story.proofs.header_read.pass_lines.Given as goal
use Rattle.sl_schedule.specs.HeadersSoFar.{Stands}
use Rattle.std.proofs.Common.{List, length, ◌≡◌}

abbrev pub invariant-loop-line : goal.invariant-loop-line
invariant-loop-line l =
    (ls : List HeaderLine) → Stands l.fn.reader ls
    → (more : List HeaderLine) × Stands l.reader more × (read_header whole_language more l.next l.lines ≡ read_header whole_language ls 1 l.fn.lines)

abbrev pub decreases-loop-line : goal.decreases-loop-line
decreases-loop-line l = length l.lines
