-- What lies on the disk of the lines so far was written.
use Rattle.sl_direct.specs.HalfDone.{Wrote}
use Rattle.sl_live_run.proofs.initial.write_lockspaces.Given as goal
use Rattle.sl_live_run.specs.Areas.{lockspace_writes_at}
use Rattle.std.proofs.Common.{take, ◌≤◌}
use Rattle.std.specs.Prelude.{flat_map}

abbrev pub invariant-loop-line : goal.invariant-loop-line
invariant-loop-line g l = record {
  wrote : Wrote (flat_map (lockspace_writes_at l.header l.path) (take l.line-index l.line-items)) (g.A.Area.content l.fn.area) (g.A.Area.content l.area);
  later : g.A.Area.faults l.fn.area ≤ g.A.Area.faults l.area;
}
