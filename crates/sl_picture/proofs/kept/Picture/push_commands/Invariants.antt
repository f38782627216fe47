use Rattle.sl_picture.proofs.kept.Picture.push_commands.Given as goal
use Rattle.sl_picture.specs.Bars.{commands_to}
use Rattle.std.proofs.Common.{◌++◌, ◌≡◌}

abbrev pub invariant-loop-index : goal.invariant-loop-index
invariant-loop-index l = l.out.items ≡ l.fn.out.items ++ commands_to l.self l.layout l.bars l.index
