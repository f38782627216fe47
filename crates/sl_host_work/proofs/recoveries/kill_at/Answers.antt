use Rattle.sl_host_work.proofs.KillsStand.{counted_at, is_killed_at, is_spared_at}
use Rattle.sl_host_work.proofs.recoveries.kill_at.Goals as goal
use Rattle.std.proofs.Common.{arith}

pub signal_holders-requires : goal.signal_holders-requires
signal_holders-requires c =
    let count = counted_at c.args.host.now.kept c.args.place c.in-Some.session c.in-Some.ensures in
    omega (arith, count, c.requires.left)

pub returns-in-Some-clause-state : goal.returns-in-Some-clause-state
returns-in-Some-clause-state c = is_killed_at c.args.host.now c.signal_holders.new.host c.args.place c.in-Some.session c.in-Some.ensures c.signal_holders.ensures.state

pub returns-in-Some-clause-left : goal.returns-in-Some-clause-left
returns-in-Some-clause-left c =
    let count = counted_at c.args.host.now.kept c.args.place c.in-Some.session c.in-Some.ensures in
    (omega (arith, count, c.signal_holders.ensures.left.0), c.signal_holders.ensures.left.1)

pub returns-in-None-clause-state : goal.returns-in-None-clause-state
returns-in-None-clause-state c = is_spared_at c.args.host.now c.args.place c.in-None.ensures
