use Rattle.sl_tables.proofs.opens.Rising+OpenCall.first_on.Given as goal
use Rattle.sl_tables.specs.Opens.{is_on_area}
use Rattle.sl_tables.specs.Rising.{items_of}
use Rattle.std.proofs.Common.{None, find, take, ◌≡◌}

abbrev pub invariant-loop-index : goal.invariant-loop-index
invariant-loop-index l = find (λ p. is_on_area l.fn.area l.fn.spot p.1) (items_of (take l.index l.self-inside.slots.items)) ≡ None
