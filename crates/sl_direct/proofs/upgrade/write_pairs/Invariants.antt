-- The pairs of the last hosts were written.
use Rattle.sl_area.specs.AreaSizes.{layout_of}
use Rattle.sl_direct.proofs.upgrade.write_pairs.Given as goal
use Rattle.sl_direct.specs.HalfDone.{Wrote}
use Rattle.sl_direct.specs.Upgrades.{pairs_down}
use Rattle.std.proofs.Common.{drop, length, ◌-◌, ◌≤◌}

abbrev pub invariant-loop-behind : goal.invariant-loop-behind
invariant-loop-behind g l = record {
  wrote : Wrote (pairs_down (layout_of l.geometry) l.leader l.base (drop (length l.blocks - l.behind) l.blocks)) (g.A.Area.content l.fn.area) (g.A.Area.content l.area);
  later : g.A.Area.faults l.fn.area ≤ g.A.Area.faults l.area;
}
