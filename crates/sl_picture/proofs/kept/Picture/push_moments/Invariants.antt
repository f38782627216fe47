use Rattle.sl_picture.proofs.kept.Picture.push_moments.Given as goal
use Rattle.sl_picture.specs.Bars.{moments_with}
use Rattle.std.proofs.Common.{[], fold, take, ◌++◌, ◌≡◌}

abbrev pub invariant-loop-bar : goal.invariant-loop-bar
invariant-loop-bar l = record {
  text : l.out.items ≡ l.fn.out.items ++ (fold (moments_with l.layout) (record { text = []; free = 0 }) (take l.bar-index l.bars)).text;
  free : l.free ≡ (fold (moments_with l.layout) (record { text = []; free = 0 }) (take l.bar-index l.bars)).free;
}
