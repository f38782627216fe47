use Rattle.sl_tables.proofs.holdings.Holdings.end_all.Given as goal
use Rattle.sl_tables.specs.Holdings.{fits}
use Rattle.std.proofs.Common.{filter, length, not, ◌≡◌}

abbrev pub invariant-loop : goal.invariant-loop
invariant-loop l = record {
  rest : filter (λ g. not (fits l.fn.sought g)) l.self.held ≡ filter (λ g. not (fits l.fn.sought g)) l.fn.self.held;
  next : l.self.next ≡ l.fn.self.next;
  room : l.self.room ≡ l.fn.self.room;
}

abbrev pub decreases-loop : goal.decreases-loop
decreases-loop l = length l.self.held
