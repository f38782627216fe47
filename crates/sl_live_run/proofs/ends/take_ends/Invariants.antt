use Rattle.sl_live_run.proofs.ends.take_ends.Given as goal
use Rattle.sl_live_run.specs.Runs.{remains_of}
use Rattle.sl_live_run.specs.Settling.{remains_after}
use Rattle.std.proofs.Common.{map, ◌≡◌}

-- the writers of those before this one, and what they leave
abbrev pub invariant-loop-ran : goal.invariant-loop-ran
invariant-loop-ran g l = record {
  writers : l.writers.items ≡ map (λ r. r.writer) l.yielded;
  remains : map remains_of l.remains.items ≡ map remains_after l.yielded;
}
