use Rattle.sl_picture.proofs.kept.free_row.Given as goal
use Rattle.sl_picture.specs.Kept.{free_from, free_row}
use Rattle.std.proofs.Common.{length, ◌-◌, ◌≡◌, ◌≤◌}

abbrev pub invariant-loop-row : goal.invariant-loop-row
invariant-loop-row l = record {
  within : l.row ≤ length l.opened;
  first : free_from (length l.opened - l.row) l.opened l.machine l.holding l.row ≡ free_row l.opened l.machine l.holding;
}

abbrev pub decreases-loop-row : goal.decreases-loop-row
decreases-loop-row l = length l.opened - l.row
