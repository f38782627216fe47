use Rattle.sl_lease.proofs.torn_leader.first_with.Given as goal
use Rattle.sl_words.specs.Words.{present}
use Rattle.std.proofs.Common.{drop, find, ◌==◌, ◌≡◌}

abbrev pub invariant-loop-pair : goal.invariant-loop-pair
invariant-loop-pair l = find (λ p. p.block.lver == l.lver) (present (drop l.pair-index l.pairs)) ≡ find (λ p. p.block.lver == l.lver) (present l.pairs)
