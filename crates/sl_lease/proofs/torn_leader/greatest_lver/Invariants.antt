use Rattle.sl_lease.proofs.torn_leader.greatest_lver.Given as goal
use Rattle.sl_lease.specs.Reads.{top_of}
use Rattle.std.proofs.Common.{drop, fold, ◌≡◌}

abbrev pub invariant-loop-pair : goal.invariant-loop-pair
invariant-loop-pair l = fold top_of l.top (drop l.pair-index l.pairs) ≡ fold top_of 0 l.pairs
