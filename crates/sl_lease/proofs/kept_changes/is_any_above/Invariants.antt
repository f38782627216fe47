use Rattle.sl_lease.proofs.kept_changes.is_any_above.Given as goal
use Rattle.sl_words.specs.Words.{present}
use Rattle.std.specs.List.{list_any}
use Rattle.std.proofs.Common.{drop, nat_lt, ◌≡◌}

abbrev pub invariant-loop-block : goal.invariant-loop-block
invariant-loop-block l = list_any (λ b. nat_lt l.n b.lver) (present (drop l.block-index l.blocks)) ≡ list_any (λ b. nat_lt l.n b.lver) (present l.blocks)
