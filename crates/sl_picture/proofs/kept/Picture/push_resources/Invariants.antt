use Rattle.sl_picture.proofs.kept.Picture.push_resources.Given as goal
use Rattle.sl_picture.specs.Page.{resources_to}
use Rattle.std.proofs.Common.{◌++◌, ◌≡◌}

abbrev pub invariant-loop-index : goal.invariant-loop-index
invariant-loop-index l = record {
  text : l.out.items ≡ l.fn.out.items ++ (resources_to l.self l.index).text;
  free : l.free ≡ (resources_to l.self l.index).free;
}
