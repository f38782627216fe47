use Rattle.sl_picture.proofs.kept.Picture.all_bars.Given as goal
use Rattle.sl_picture.specs.Fates.{ended, is_gap}
use Rattle.std.proofs.Common.{filter, map, not, take, ◌++◌, ◌≡◌}

abbrev pub invariant-loop-bar : goal.invariant-loop-bar
invariant-loop-bar l = l.bars.items ≡ l.self.done ++ map (ended l.self.here) (filter (λ b. not (is_gap b.shape)) (take l.bar-index l.self.opened))
