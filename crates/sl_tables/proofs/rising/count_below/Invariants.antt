use Rattle.sl_tables.proofs.rising.count_below.Given as goal
use Rattle.sl_tables.specs.Rising.{AreBelow}
use Rattle.std.proofs.Common.{drop, length, take, ◌-◌, ◌≤◌}
use Rattle.std.specs.List.{AllByRecursion}

abbrev pub invariant-loop-low : goal.invariant-loop-low
invariant-loop-low g l = record {
  order : l.low ≤ l.high;
  within : l.high ≤ length l.slots;
  below : AreBelow l.number (take l.low l.slots);
  from : AllByRecursion (λ p. l.number ≤ p.0) (drop l.high l.slots);
}

abbrev pub decreases-loop-low : goal.decreases-loop-low
decreases-loop-low g l = l.high - l.low
