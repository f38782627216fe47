use Rattle.sl_machine.specs.Machines.{machine_state}
use Rattle.sl_report.specs.Reports.{conflicts_after}
use Rattle.sl_run.specs.Conflicts.{has_conflict}
use Rattle.sl_world.proofs.conflicts.count_conflicts.Given as goal
use Rattle.sl_world.specs.ConflictCounts.{all_with, others_from}
use Rattle.std.proofs.Common.{drop, length, map, take, ◌+◌, ◌-◌, ◌≡◌, ◌≤◌}

-- those of the grants before this one are counted
abbrev pub invariant-loop-at : goal.invariant-loop-at
invariant-loop-at g l =
    let others = others_from l.lately.land l.lately.moment l.owner (map (machine_state g.L.LockTable.locks) l.machines) in
    (l.at ≤ length l.held) × (l.count ≤ l.at) × (l.clash ≡ has_conflict (all_with l.lately.land l.lately.moment l.owner (map (machine_state g.L.LockTable.locks) l.machines) (take l.at l.held)))
    × (l.count + conflicts_after others l.owner (take l.at l.held) (drop l.at l.held) ≡ conflicts_after others l.owner (take l.first l.held) (drop l.first l.held))

abbrev pub decreases-loop-at : goal.decreases-loop-at
decreases-loop-at g l = length l.held - l.at
