-- The lines of so many machines stand.
use Rattle.sl_generate.proofs.header.sessions.Given as goal
use Rattle.sl_generate.specs.HeaderLines.{gen_session}
use Rattle.std.proofs.Common.{map, ◌-◌, ◌≡◌, ◌≤◌}
use Rattle.std.specs.List.{range_with_len}

abbrev pub invariant-loop-machine : goal.invariant-loop-machine
invariant-loop-machine l = (l.machine ≤ l.hosts) × (l.lines.items ≡ map gen_session (range_with_len 1 l.machine))

abbrev pub decreases-loop-machine : goal.decreases-loop-machine
decreases-loop-machine l = l.hosts - l.machine
