use Rattle.sl_locks.proofs.ask.push_name.Given as goal
use Rattle.sl_run.specs.LockNames.{doubled}
use Rattle.std.proofs.Common.{take, ◌++◌, ◌≡◌}

-- the characters before this one are written
abbrev pub invariant-loop-byte : goal.invariant-loop-byte
invariant-loop-byte l = l.out.items ≡ l.fn.out.items ++ doubled (take l.byte-index l.name)
