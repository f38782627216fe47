use Rattle.sl_picture.proofs.kept.Picture.push_bars.Given as goal
use Rattle.sl_picture.specs.Bars.{bars_text}
use Rattle.std.proofs.Common.{take, ◌++◌, ◌≡◌}

abbrev pub invariant-loop-bar : goal.invariant-loop-bar
invariant-loop-bar l = l.out.items ≡ l.fn.out.items ++ bars_text l.self l.layout (take l.bar-index l.bars) l.layer
