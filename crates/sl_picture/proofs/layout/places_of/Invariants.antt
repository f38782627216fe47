use Rattle.sl_picture.proofs.layout.places_of.Given as goal
use Rattle.sl_picture.specs.Layout.{places_of, top_behind}
use Rattle.std.proofs.Common.{◌≡◌}

abbrev pub invariant-loop-index : goal.invariant-loop-index
invariant-loop-index l = record {
  places : l.places.items ≡ places_of l.bars l.index;
  top : l.top ≡ top_behind l.bars l.index;
}
