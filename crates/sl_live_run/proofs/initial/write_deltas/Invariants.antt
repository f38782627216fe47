-- The records of the ids so far were written.
use Rattle.sl_direct.specs.HalfDone.{Wrote}
use Rattle.sl_live_run.proofs.initial.write_deltas.Given as goal
use Rattle.sl_live_run.specs.Areas.{delta_write}
use Rattle.std.proofs.Common.{map, ◌≤◌}
use Rattle.std.specs.List.{range_with_len}

abbrev pub invariant-loop-before : goal.invariant-loop-before
invariant-loop-before g l = record {
  wrote : Wrote (map (delta_write l.header l.line) (range_with_len 1 l.before)) (g.A.Area.content l.fn.area) (g.A.Area.content l.area);
  later : g.A.Area.faults l.fn.area ≤ g.A.Area.faults l.area;
}
