use Rattle.sl_machine.proofs.flights.first_late.Given as goal
use Rattle.sl_machine.specs.Flights.{late_of}
use Rattle.std.proofs.Common.{drop, length, ◌≡◌, ◌≤◌}

-- the least of those from `index` on
abbrev pub invariant-loop-index : goal.invariant-loop-index
invariant-loop-index l = (l.index ≤ length l.items.items) × (l.late ≡ late_of (drop l.index l.items.items))

abbrev pub decreases-loop-index : goal.decreases-loop-index
decreases-loop-index l = l.index
