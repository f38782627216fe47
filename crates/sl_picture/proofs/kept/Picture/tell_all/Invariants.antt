use Rattle.sl_picture.proofs.kept.Picture.tell_all.Given as goal
use Rattle.sl_picture.specs.Tells.{all_told}
use Rattle.std.proofs.Common.{length, ◌≡◌}

abbrev pub invariant-loop-line : goal.invariant-loop-line
invariant-loop-line l = all_told l.rest l.self ≡ all_told l.report l.fn.self

abbrev pub decreases-loop-line : goal.decreases-loop-line
decreases-loop-line l = length l.rest
