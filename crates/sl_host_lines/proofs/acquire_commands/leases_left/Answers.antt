use Rattle.sl_host_lines.proofs.LeasesAreCounted.{less_left}
use Rattle.sl_host_lines.proofs.acquire_commands.leases_left.Goals as goal
use Rattle.std.proofs.Common.{arith, ◌-◌, ◌≡◌}

pub loop-place-preserved : goal.loop-place-preserved
loop-place-preserved c =
    let less : c.saturating_sub-left.result ≡ c.loop-place.left - c.leases_of.result = omega arith in
    less_left 256 c.loop-place.left c.saturating_sub-left.result c.leases_of.result c.loop-place.place c.args.members.now.members c.nth.result.now.state less c.loop-place.invariant c.leases_of.ensures
    c.nth.ensures
