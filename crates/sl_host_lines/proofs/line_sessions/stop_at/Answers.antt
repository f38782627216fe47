use Rattle.sl_host_lines.proofs.LeavesStand.{few_stopped, stopped_none, stopped_on}
use Rattle.sl_host_lines.proofs.line_sessions.stop_at.Goals as goal
use Rattle.sl_host_state.specs.KeptState.{state_of}
use Rattle.sl_member.specs.HostMembers.{member_with}
use Rattle.std.proofs.Common.{arith, ◌∙◌}
use Rattle.std.specs.Prelude.{Some}

pub stop-requires-clause-left : goal.stop-requires-clause-left
stop-requires-clause-left c =
    let k = c.args.host.now.kept in
    let few = few_stopped k (member_with c.args.number k.members) c.in-Some.stopped (Some c.args.job) c.in-Some.ensures in
    omega (arith, few, c.requires.left)

pub returns-in-Some-clause-state : goal.returns-in-Some-clause-state
returns-in-Some-clause-state c read = c.stop.ensures.state read ∙ stopped_on (state_of read c.args.host.now.kept) c.args.number c.args.job c.in-Some.stopped c.in-Some.ensures

pub returns-in-Some-clause-left : goal.returns-in-Some-clause-left
returns-in-Some-clause-left c =
    let k = c.args.host.now.kept in
    let few = few_stopped k (member_with c.args.number k.members) c.in-Some.stopped (Some c.args.job) c.in-Some.ensures in
    (omega (arith, few, c.stop.ensures.left.0), c.stop.ensures.left.1)

pub returns-in-None-clause-state : goal.returns-in-None-clause-state
returns-in-None-clause-state c read = stopped_none (state_of read c.args.host.now.kept) c.args.number c.args.job c.in-None.ensures
