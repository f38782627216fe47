use Rattle.sl_lease.proofs.ReadLaws.{KeptTo}
use Rattle.sl_lease.proofs.block_reads.Blocks.read_pairs.Given as goal
use Rattle.sl_lease.specs.Reads.{behind, is_torn_to, pairs_to}
use Rattle.std.specs.Prelude.{length, take, ◌≡◌}

abbrev pub invariant-loop-before : goal.invariant-loop-before
invariant-loop-before g l = record {
  torn : l.any ≡ is_torn_to l.geometry (behind l.geometry l.skipped (g.S.Sectors.bytes l.sectors)) l.before;
  pairs : take l.before l.self.pairs ≡ pairs_to l.geometry (behind l.geometry l.skipped (g.S.Sectors.bytes l.sectors)) l.before;
  kept : KeptTo l.geometry (behind l.geometry l.skipped (g.S.Sectors.bytes l.sectors)) l.before l.initial.self.kept l.self.kept;
  blocks : l.self.blocks ≡ l.initial.self.blocks;
  places : length l.self.pairs ≡ l.geometry.hosts;
}
