use Rattle.sl_machine.proofs.machine_holdings.add_grants.Given as goal
use Rattle.std.proofs.Common.{length, take, vec_len, ◌++◌, ◌+◌, ◌-◌, ◌≡◌, ◌≤◌}
use Rattle.std.specs.Vec.{vec_capacity}

-- the grants before this one are held
abbrev pub invariant-loop-grant : goal.invariant-loop-grant
invariant-loop-grant l = record {
  items : l.held.items ≡ l.fn.held.items ++ take l.grant-index l.grants;
  room : vec_len l.held + (length l.grants - l.grant-index) ≤ vec_capacity l.held;
}
