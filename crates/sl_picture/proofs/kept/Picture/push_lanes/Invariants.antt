use Rattle.sl_picture.proofs.kept.Picture.push_lanes.Given as goal
use Rattle.sl_picture.specs.Page.{lanes_to}
use Rattle.std.proofs.Common.{◌++◌, ◌≡◌}

abbrev pub invariant-loop-index : goal.invariant-loop-index
invariant-loop-index l = l.out.items ≡ l.fn.out.items ++ lanes_to l.layout l.index
