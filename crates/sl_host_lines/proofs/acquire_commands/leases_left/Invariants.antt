use Rattle.sl_host_lines.proofs.acquire_commands.leases_left.Given as goal
use Rattle.sl_host_lines.specs.CommandRefusals.{leases_in}
use Rattle.std.proofs.Common.{take, ◌-◌, ◌≡◌}

abbrev pub invariant-loop-place : goal.invariant-loop-place
invariant-loop-place l = l.left ≡ 256 - leases_in (take l.place l.members.members)
