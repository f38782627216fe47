use Rattle.sl_cell.proofs.queue.put_each.Given as goal
use Rattle.sl_cell.specs.Parts.{is_of}
use Rattle.std.proofs.Common.{filter, length, take, ◌++◌, ◌+◌, ◌-◌, ◌≡◌, ◌≤◌}
use Rattle.std.specs.VecDeque.{deque_capacity, deque_len}

-- the part's calls before this one stand behind those that were there
abbrev pub invariant-loop-call : goal.invariant-loop-call
invariant-loop-call l = record {
  items : l.calls.items ≡ l.fn.calls.items ++ filter (is_of l.part) (take l.call-index l.made);
  room : deque_len l.calls + (length l.made - l.call-index) ≤ deque_capacity l.calls;
}
