use Rattle.sl_world_state.specs.KeptWorld.{sector_of_call}
use Rattle.sl_machine.proofs.calls.gather.Given as goal
use Rattle.std.proofs.Common.{◌≡◌}
use Rattle.std.specs.Arc.{arc_value}
use Rattle.std.specs.List.{flat_map, range_with_len}

-- the sectors before this one are there
abbrev pub invariant-loop-done : goal.invariant-loop-done
invariant-loop-done l =
    (flat_map (λ m. arc_value m) l.images.items ≡ flat_map (sector_of_call l.fn.disks.sectors l.place) (range_with_len l.first l.done)) × (l.disks ≡ l.fn.disks)
