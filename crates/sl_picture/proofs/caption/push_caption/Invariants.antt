use Rattle.sl_picture.proofs.caption.push_caption.Given as goal
use Rattle.sl_picture.specs.Captions.{lines_to}
use Rattle.std.proofs.Common.{◌++◌, ◌≡◌}

abbrev pub invariant-loop-index : goal.invariant-loop-index
invariant-loop-index l = l.out.items ≡ l.fn.out.items ++ lines_to l.caption l.index
