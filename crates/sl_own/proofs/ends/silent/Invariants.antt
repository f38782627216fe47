use Rattle.sl_own.proofs.ends.silent.Given as goal
use Rattle.std.proofs.Common.{length, ◌≡◌}
use Rattle.std.specs.Prelude.{All}

-- one at each place before this one, and each has put out nothing
abbrev pub invariant-loop-by : goal.invariant-loop-by
invariant-loop-by g l = record {
  counted : length l.writers.items ≡ l.by;
  none : All (λ s. s.count ≡ 0) l.writers.items;
}
