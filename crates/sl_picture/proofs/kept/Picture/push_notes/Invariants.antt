use Rattle.sl_picture.proofs.kept.Picture.push_notes.Given as goal
use Rattle.sl_picture.specs.Signs.{notes_to}
use Rattle.std.proofs.Common.{◌++◌, ◌≡◌}

abbrev pub invariant-loop-index : goal.invariant-loop-index
invariant-loop-index l = record {
  text : l.out.items ≡ l.fn.out.items ++ (notes_to l.self l.layout l.index).text;
  free : l.free ≡ (notes_to l.self l.layout l.index).free;
}
