use Rattle.sl_picture.proofs.kept.Picture.set_clocks.Given as goal
use Rattle.sl_picture.specs.Kept.{clocks_set}
use Rattle.std.proofs.Common.{take, ◌≡◌}

abbrev pub invariant-loop-clock : goal.invariant-loop-clock
invariant-loop-clock l = l.self ≡ clocks_set (take l.clock-index l.clocks) l.fn.self
