use Rattle.sl_machine.proofs.children.add_starts.Given as goal
use Rattle.std.proofs.Common.{length, map, take, vec_len, ◌++◌, ◌+◌, ◌-◌, ◌≡◌, ◌≤◌}
use Rattle.std.specs.Vec.{vec_capacity}

-- the children before this one are waited for
abbrev pub invariant-loop-start : goal.invariant-loop-start
invariant-loop-start l = record {
  items : l.starting.items ≡ l.fn.starting.items ++ map (λ x. x.process) (take l.start-index l.starts);
  room : vec_len l.starting + (length l.starts - l.start-index) ≤ vec_capacity l.starting;
}
