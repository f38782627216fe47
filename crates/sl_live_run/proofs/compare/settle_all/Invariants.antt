use Rattle.sl_live_run.proofs.compare.settle_all.Given as goal
use Rattle.sl_live_run.specs.Settling.{AreSettled}
use Rattle.std.proofs.Common.{take}

-- those before this one have whole histories
abbrev pub invariant-loop-place : goal.invariant-loop-place
invariant-loop-place g l = AreSettled l.ledger (take l.place l.rans) l.replies
