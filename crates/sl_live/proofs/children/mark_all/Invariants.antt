use Rattle.sl_live.proofs.children.mark_all.Given as goal
use Rattle.sl_live.specs.Turns.{doomed}
use Rattle.std.proofs.Common.{drop, map, take, ◌++◌, ◌≡◌}

-- those before this one are marked
abbrev pub invariant-loop-waiting : goal.invariant-loop-waiting
invariant-loop-waiting l = l.awaited ≡ map doomed (take l.waiting-index l.fn.awaited) ++ drop l.waiting-index l.fn.awaited
