use Rattle.sl_world_state.specs.Changes.{disowned}
use Rattle.sl_wdmd.proofs.MappedLists.{front_mapped}
use Rattle.sl_machine.proofs.flights.disown_all.Given as goal
use Rattle.std.proofs.Common.{deque_len, ◌≡◌}

-- the calls before this one are changed
abbrev pub invariant-loop-index : goal.invariant-loop-index
invariant-loop-index l = (l.items.items ≡ front_mapped disowned l.index l.fn.items.items) × (deque_len l.items ≡ deque_len l.fn.items)
