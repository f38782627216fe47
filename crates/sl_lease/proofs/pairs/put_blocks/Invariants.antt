use Rattle.sl_lease.proofs.pairs.put_blocks.Given as goal
use Rattle.sl_lease.specs.Reads.{blocks_of_pairs}
use Rattle.sl_sector.specs.Records.{IsBlock}
use Rattle.std.specs.Prelude.{All, IfSome, length, take, ◌≡◌}

abbrev pub invariant-loop-before : goal.invariant-loop-before
invariant-loop-before l = record {
  places : length l.blocks ≡ length l.pairs;
  exact : take l.before l.blocks ≡ blocks_of_pairs (take l.before l.pairs);
  rules : All (λ o. IfSome o IsBlock) (take l.before l.blocks);
}
