use Rattle.sl_lease.proofs.block_reads.read_blocks.Given as goal
use Rattle.sl_lease.specs.Reads.{behind, blocks_to}
use Rattle.sl_sector.specs.Records.{IsBlock}
use Rattle.std.specs.Prelude.{All, IfSome, length, take, ◌≡◌}

abbrev pub invariant-loop-before : goal.invariant-loop-before
invariant-loop-before g l = record {
  exact : take l.before l.items ≡ blocks_to l.geometry (behind l.geometry l.skipped (g.S.Sectors.bytes l.sectors)) l.before;
  rules : All (λ o. IfSome o IsBlock) (take l.before l.items);
  places : length l.items ≡ l.hosts;
}
