use Rattle.sl_text.proofs.same.is_same.Given as goal
use Rattle.std.proofs.Common.{take, ◌≡◌}

-- the bytes before this one are the same
abbrev pub invariant-loop-index : goal.invariant-loop-index
invariant-loop-index l = take l.index l.a ≡ take l.index l.b
