use Rattle.sl_locks.proofs.table.copied.Given as goal
use Rattle.std.proofs.Common.{length, take, vec_len, ◌+◌, ◌-◌, ◌≡◌, ◌≤◌}
use Rattle.std.specs.Vec.{vec_capacity}

-- the locks before this one are copied
abbrev pub invariant-loop-lock : goal.invariant-loop-lock
invariant-loop-lock l = record {
  items : l.room.items ≡ take l.lock-index l.held;
  room : vec_len l.room + (length l.held - l.lock-index) ≤ vec_capacity l.room;
}
