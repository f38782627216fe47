-- What was compared so far stands, and the disk is as it was.
use Rattle.sl_standing.proofs.areas.check_resources.Given as goal
use Rattle.sl_standing.specs.Standing.{HasLeaderOn}
use Rattle.std.proofs.Common.{All, take, ◌≤◌}
use Rattle.std.specs.Io.KnownBytes.{Keeps}

abbrev pub invariant-loop-line : goal.invariant-loop-line
invariant-loop-line g l = record {
  kept : Keeps (g.A.Area.content l.fn.area) (g.A.Area.content l.area);
  all : All (HasLeaderOn l.header l.path (g.A.Area.content l.fn.area)) (take l.line-index l.line-items);
  later : g.A.Area.faults l.fn.area ≤ g.A.Area.faults l.area;
}
