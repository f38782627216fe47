use Rattle.sl_world_state.specs.FirstKept.{first_machine}
use Rattle.sl_machine.proofs.first_world.first_machines.Given as goal
use Rattle.sl_machine.specs.Machines.{machine_state}
use Rattle.std.proofs.Common.{map, ◌≡◌}
use Rattle.std.specs.List.{range_with_len}

-- the machines before this one are there
abbrev pub invariant-loop-place : goal.invariant-loop-place
invariant-loop-place g l = map (machine_state g.L.LockTable.locks) l.machines.items ≡ map (first_machine l.header) (range_with_len 1 l.place)
