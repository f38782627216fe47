-- The blocks of the hosts so far were read, and nothing is told.
use Rattle.sl_direct.proofs.upgrade.read_old_blocks.Given as goal
use Rattle.sl_direct.specs.Upgrades.{AreOld}
use Rattle.std.proofs.Common.{[], length, ◌≡◌, ◌≤◌}
use Rattle.std.specs.Io.KnownBytes.{Keeps}

abbrev pub invariant-loop-before : goal.invariant-loop-before
invariant-loop-before g l = record {
  kept : Keeps (g.A.Area.content l.fn.area) (g.A.Area.content l.area);
  old : AreOld l.geometry l.base (g.A.Area.content l.fn.area) l.blocks.items;
  count : length l.blocks.items ≡ l.before;
  told : l.out.items ≡ [];
  later : g.A.Area.faults l.fn.area ≤ g.A.Area.faults l.area;
}
