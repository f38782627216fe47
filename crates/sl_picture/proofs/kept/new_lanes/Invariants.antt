use Rattle.sl_picture.proofs.kept.new_lanes.Given as goal
use Rattle.sl_picture.specs.Kept.{no_lane}
use Rattle.std.proofs.Common.{◌≡◌}
use Rattle.std.specs.Prelude.{replicate}

abbrev pub invariant-loop : goal.invariant-loop
invariant-loop l = l.lanes.items ≡ replicate l.counter no_lane
