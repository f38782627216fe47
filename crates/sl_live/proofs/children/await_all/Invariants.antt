use Rattle.sl_live.proofs.children.await_all.Given as goal
use Rattle.sl_live.specs.Turns.{number_of, ordered}
use Rattle.std.proofs.Common.{length, map, take, ◌++◌, ◌+◌, ◌-◌, ◌≡◌, ◌≤◌}
use Rattle.std.specs.Prelude.{vec_capacity, vec_len}

-- the starts before this one are awaited, and there is room for the others
abbrev pub invariant-loop-start : goal.invariant-loop-start
invariant-loop-start l = record {
  numbers : l.numbers.items ≡ l.fn.numbers.items ++ map number_of (take l.start-index l.starts);
  awaited : l.awaited.items ≡ l.fn.awaited.items ++ map ordered (take l.start-index l.starts);
  numbers_fit : vec_len l.numbers + (length l.starts - l.start-index) ≤ vec_capacity l.numbers;
  awaited_fit : vec_len l.awaited + (length l.starts - l.start-index) ≤ vec_capacity l.awaited;
}
