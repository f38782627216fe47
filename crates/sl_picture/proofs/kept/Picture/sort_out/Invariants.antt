use Rattle.sl_picture.proofs.kept.Picture.sort_out.Given as goal
use Rattle.sl_picture.specs.Kept.{ends_of, stays_of}
use Rattle.std.proofs.Common.{take, ◌≡◌}
use Rattle.std.specs.List.{flat_map}

abbrev pub invariant-loop-bar : goal.invariant-loop-bar
invariant-loop-bar l = record {
  stay : l.stay.items ≡ flat_map (stays_of l.act l.name l.self) (take l.bar-index l.self.opened);
  end : l.end.items ≡ flat_map (ends_of l.act l.name l.self) (take l.bar-index l.self.opened);
}
