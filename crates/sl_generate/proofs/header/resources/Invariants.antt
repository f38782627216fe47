-- The lines of so many resources stand.
use Rattle.sl_generate.proofs.header.resources.Given as goal
use Rattle.sl_report.specs.GeneratedSchedules.{gen_resource}
use Rattle.std.proofs.Common.{map, ◌-◌, ◌≡◌, ◌≤◌}
use Rattle.std.specs.List.{range_with_len}

abbrev pub invariant-loop-number : goal.invariant-loop-number
invariant-loop-number l = (l.number ≤ 4) × (l.lines.items ≡ map gen_resource (range_with_len 1 l.number))

abbrev pub decreases-loop-number : goal.decreases-loop-number
decreases-loop-number l = 4 - l.number
