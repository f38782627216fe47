use Rattle.sl_live.proofs.children.mark.Given as goal
use Rattle.sl_live.specs.Turns.{marked}
use Rattle.std.proofs.Common.{drop, map, take, ◌++◌, ◌≡◌}

-- those before this one are marked
abbrev pub invariant-loop-waiting : goal.invariant-loop-waiting
invariant-loop-waiting l = l.awaited ≡ map (marked l.signals) (take l.waiting-index l.fn.awaited) ++ drop l.waiting-index l.fn.awaited
