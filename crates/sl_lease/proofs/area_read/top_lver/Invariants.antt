use Rattle.sl_lease.proofs.area_read.top_lver.Given as goal
use Rattle.sl_lease.specs.LeaseQuestions.{top_beside}
use Rattle.std.proofs.Common.{drop, fold, ◌≡◌}

abbrev pub invariant-loop-block : goal.invariant-loop-block
invariant-loop-block l = fold (top_beside l.own) l.top (drop l.block-index l.read) ≡ fold (top_beside l.own) l.own.lver l.read
