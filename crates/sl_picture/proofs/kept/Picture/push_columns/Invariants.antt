use Rattle.sl_picture.proofs.kept.Picture.push_columns.Given as goal
use Rattle.sl_picture.specs.Signs.{column_text}
use Rattle.std.proofs.Common.{take, ◌++◌, ◌≡◌}
use Rattle.std.specs.List.{flat_map}

abbrev pub invariant-loop-column : goal.invariant-loop-column
invariant-loop-column l = l.out.items ≡ l.fn.out.items ++ flat_map (column_text l.self l.layout) (take l.column-index l.self.columns)
