use Rattle.sl_tables.proofs.holdings.Rising+Grant.seek.Given as goal
use Rattle.sl_tables.specs.Holdings.{fits}
use Rattle.sl_tables.specs.Rising.{items_of}
use Rattle.std.proofs.Common.{None, find, take, ◌≡◌}

abbrev pub invariant-loop-index : goal.invariant-loop-index
invariant-loop-index l = find (λ p. fits l.fn.sought p.1) (items_of (take l.index l.self-inside.slots.items)) ≡ None
