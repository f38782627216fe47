use Rattle.sl_live.proofs.read_before.ReadBefore.images.Given as goal
use Rattle.std.proofs.Common.{length, ◌++◌, ◌≡◌}

-- the sectors before these are what was read before them
abbrev pub invariant-loop-rest : goal.invariant-loop-rest
invariant-loop-rest l = record {
  size : l.images.size ≡ l.size;
  bytes : l.images.bytes ++ l.rest ≡ l.bytes;
}

abbrev pub decreases-loop-rest : goal.decreases-loop-rest
decreases-loop-rest l = length l.rest
