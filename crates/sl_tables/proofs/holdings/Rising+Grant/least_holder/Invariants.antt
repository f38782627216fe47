use Rattle.sl_tables.proofs.holdings.Rising+Grant.least_holder.Given as goal
use Rattle.sl_tables.specs.Holdings.{least_holder}
use Rattle.sl_tables.specs.Rising.{items_of}
use Rattle.std.proofs.Common.{take, ◌≡◌}
use Rattle.std.specs.Map.{values_of}

abbrev pub invariant-loop-index : goal.invariant-loop-index
invariant-loop-index l = l.least ≡ least_holder l.fn.sought (values_of (items_of (take l.index l.self-inside.slots.items)))
