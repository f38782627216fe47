use Rattle.sl_host_step.proofs.bytes.are_byte_sectors.Given as goal
use Rattle.std.specs.Arc.{arc_value}
use Rattle.std.specs.List.{flat_map, list_all}
use Rattle.std.specs.Prelude.{IsTrue, nat_lt, take}

-- the sectors before this one are bytes
abbrev pub invariant-loop-image : goal.invariant-loop-image
invariant-loop-image l = IsTrue (list_all (λ b. nat_lt b 256) (flat_map (λ m. arc_value m) (take l.image-index l.images)))
