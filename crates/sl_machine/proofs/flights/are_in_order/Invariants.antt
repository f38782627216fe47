use Rattle.sl_machine.proofs.flights.are_in_order.Given as goal
use Rattle.sl_machine.specs.Flights.{in_order}
use Rattle.std.proofs.Common.{drop, length, ◌-◌, ◌≡◌, ◌≤◌}

-- whether those from the one before `index` on are in order
abbrev pub invariant-loop-index : goal.invariant-loop-index
invariant-loop-index l = (l.index ≤ length l.items.items) × (l.ordered ≡ in_order (drop (l.index - 1) l.items.items))

abbrev pub decreases-loop-index : goal.decreases-loop-index
decreases-loop-index l = l.index
