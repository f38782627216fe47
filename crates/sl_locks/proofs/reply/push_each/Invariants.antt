use Rattle.sl_locks.proofs.reply.push_each.Given as goal
use Rattle.sl_locks.specs.Replies.{held_words}
use Rattle.std.proofs.Common.{take, ◌++◌, ◌≡◌}

-- the locks before this one are told
abbrev pub invariant-loop-lock : goal.invariant-loop-lock
invariant-loop-lock l = l.out.items ≡ l.fn.out.items ++ held_words (take l.lock-index l.held)
