use Rattle.sl_picture.proofs.kept.Picture.keep_idles.Given as goal
use Rattle.sl_picture.specs.Kept.{idle_to}
use Rattle.std.proofs.Common.{◌≡◌}

abbrev pub invariant-loop-index : goal.invariant-loop-index
invariant-loop-index l = l.self ≡ idle_to l.index l.fn.self
