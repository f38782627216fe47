-- The sectors so far were told, and the disk is as it was.
use Rattle.sl_direct.specs.HalfDone.{AreTold}
use Rattle.sl_direct.proofs.looks.tell_sectors.Given as goal
use Rattle.std.proofs.Common.{◌≤◌}
use Rattle.std.specs.Io.KnownBytes.{Keeps}

abbrev pub invariant-loop-number : goal.invariant-loop-number
invariant-loop-number g l = record {
  told : AreTold (g.A.Area.content l.fn.area) l.geometry.sector l.offset l.number l.out.items;
  kept : Keeps (g.A.Area.content l.fn.area) (g.A.Area.content l.area);
  later : g.A.Area.faults l.fn.area ≤ g.A.Area.faults l.area;
}
