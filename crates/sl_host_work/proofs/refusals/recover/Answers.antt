use Rattle.sl_host_state.specs.KeptState.{state_of}
use Rattle.sl_host_work.proofs.RefusalsStand.{cost_is, no_recovery_is, recovery_is}
use Rattle.sl_host_work.proofs.refusals.recover.Goals as goal
use Rattle.sl_host_work.specs.KilledMembers.{unread}
use Rattle.sl_host_work.specs.Stops.{recovering_of}
use Rattle.sl_member.specs.HostMembers.{member_with}
use Rattle.std.proofs.Common.{arith, ◌∙◌}

pub stop-requires-clause-left : goal.stop-requires-clause-left
stop-requires-clause-left c =
    let k = c.args.host.now.kept in
    let cost = cost_is k (recovering_of (unread k) (member_with c.args.number k.members)) c.in-Some.stopped c.in-Some.ensures in
    omega (arith, cost, c.requires.left)

pub returns-in-Some-clause-state : goal.returns-in-Some-clause-state
returns-in-Some-clause-state c read = c.stop.ensures.state read ∙ recovery_is c.args.number (state_of read c.args.host.now.kept) c.in-Some.stopped c.in-Some.ensures

pub returns-in-Some-clause-left : goal.returns-in-Some-clause-left
returns-in-Some-clause-left c =
    let k = c.args.host.now.kept in
    let cost = cost_is k (recovering_of (unread k) (member_with c.args.number k.members)) c.in-Some.stopped c.in-Some.ensures in
    (omega (arith, cost, c.stop.ensures.left.0), c.stop.ensures.left.1)

pub returns-in-None-clause-state : goal.returns-in-None-clause-state
returns-in-None-clause-state c read = no_recovery_is c.args.number (state_of read c.args.host.now.kept) c.in-None.ensures
