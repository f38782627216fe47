use Rattle.sl_picture.proofs.kept.Picture.keep_resources.Given as goal
use Rattle.sl_picture.specs.Kept.{with_resource}
use Rattle.std.proofs.Common.{fold, take, ◌≡◌}

abbrev pub invariant-loop-line : goal.invariant-loop-line
invariant-loop-line l = l.self ≡ fold with_resource l.fn.self (take l.line-index l.lines)
