use Rattle.sl_lease.proofs.kept_changes.top_mbal.Given as goal
use Rattle.sl_lease.specs.Changes.{top_within}
use Rattle.std.proofs.Common.{drop, fold, ◌≡◌}

abbrev pub invariant-loop-block : goal.invariant-loop-block
invariant-loop-block l = fold (top_within l.n) l.top (drop l.block-index l.read) ≡ fold (top_within l.n) 0 l.read
