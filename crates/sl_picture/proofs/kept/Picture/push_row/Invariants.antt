use Rattle.sl_picture.proofs.kept.Picture.push_row.Given as goal
use Rattle.sl_picture.specs.Bars.{row_with}
use Rattle.std.proofs.Common.{[], fold, take, ◌++◌, ◌≡◌}

abbrev pub invariant-loop-bar : goal.invariant-loop-bar
invariant-loop-bar l = record {
  text : l.out.items ≡ l.fn.out.items ++ (fold (row_with l.self l.layout l.machine l.row) (record { text = []; free = 0 }) (take l.bar-index l.bars)).text;
  free : l.free ≡ (fold (row_with l.self l.layout l.machine l.row) (record { text = []; free = 0 }) (take l.bar-index l.bars)).free;
}
