use Rattle.sl_sector.proofs.images.Images.push_bytes.Given as goal
use Rattle.std.proofs.Common.{take, ◌++◌, ◌≡◌}
use Rattle.std.specs.Arc.{arc_value}
use Rattle.std.specs.List.{flat_map}

-- the sectors before this one have been added
abbrev pub invariant-loop-image : goal.invariant-loop-image
invariant-loop-image l = l.out.items ≡ l.fn.out.items ++ flat_map (λ m. arc_value m) (take l.image-index l.images)
