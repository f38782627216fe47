use Rattle.sl_area.specs.AreaSizes.{layout_of}
use Rattle.sl_member.proofs.leases.set_values.Given as goal
use Rattle.sl_member.specs.Leases.{value_set}
use Rattle.std.proofs.Common.{drop, map, take, ◌++◌, ◌≡◌}

abbrev pub invariant-loop-lease : goal.invariant-loop-lease
invariant-loop-lease l =
    l.leases ≡ map (value_set (layout_of l.geometry) l.path l.offset l.value) (take l.lease-index l.fn.leases) ++ drop l.lease-index l.fn.leases
