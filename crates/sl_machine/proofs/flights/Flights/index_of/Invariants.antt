use Rattle.sl_machine.proofs.FlightLaws.{Narrowed}
use Rattle.sl_machine.proofs.flights.Flights.index_of.Given as goal
use Rattle.std.proofs.Common.{◌-◌}

-- the calls before `low` have greater numbers, those from `high` on lesser ones
abbrev pub invariant-loop-low : goal.invariant-loop-low
invariant-loop-low l = Narrowed l.self.items.items l.number l.low l.high

abbrev pub decreases-loop-low : goal.decreases-loop-low
decreases-loop-low l = l.high - l.low
