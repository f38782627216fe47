use Rattle.sl_world_state.specs.Steps.{new_flight}
use Rattle.sl_machine.proofs.flights.Flights.push_calls.Given as goal
use Rattle.std.proofs.Common.{deque_len, fold, length, take, ◌+◌, ◌-◌, ◌∷◌, ◌≡◌, ◌≤◌}
use Rattle.std.specs.VecDeque.{deque_capacity}

-- the calls before this one are in flight
abbrev pub invariant-loop-call : goal.invariant-loop-call
invariant-loop-call l = record {
  items : l.self.items.items ≡ fold (λ fs c. new_flight l.header c ∷ fs) l.fn.self.items.items (take l.call-index l.calls);
  next : l.self.next ≡ l.fn.self.next + l.call-index;
  room : deque_len l.self.items + (length l.calls - l.call-index) ≤ deque_capacity l.self.items;
}
