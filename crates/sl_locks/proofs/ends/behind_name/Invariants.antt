use Rattle.sl_locks.proofs.ends.behind_name.Given as goal
use Rattle.sl_locks.specs.Ends.{behind}
use Rattle.sl_run.specs.LockNames.{doubled}
use Rattle.std.proofs.Common.{drop, ◌≡◌}

-- what stands behind the characters before this one
abbrev pub invariant-loop-byte : goal.invariant-loop-byte
invariant-loop-byte l = behind (doubled l.name) l.text ≡ behind (doubled (drop l.byte-index l.name)) l.rest
