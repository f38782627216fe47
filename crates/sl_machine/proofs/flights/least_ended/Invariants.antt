use Rattle.sl_machine.proofs.flights.least_ended.Given as goal
use Rattle.sl_machine.specs.Flights.{ended_number}
use Rattle.sl_words.specs.Words.{least}
use Rattle.std.proofs.Common.{drop, length, ◌≡◌, ◌≤◌}
use Rattle.std.specs.Prelude.{filter_map}

-- the least of those from `index` on
abbrev pub invariant-loop-index : goal.invariant-loop-index
invariant-loop-index l = (l.index ≤ length l.items.items) × (l.least ≡ least (filter_map ended_number (drop l.index l.items.items)))

abbrev pub decreases-loop-index : goal.decreases-loop-index
decreases-loop-index l = l.index
