use Rattle.sl_host_lines.proofs.EndsStand.{turned_on}
use Rattle.sl_host_lines.proofs.line_ends.turn.Goals as goal
use Rattle.sl_host_state.specs.KeptState.{HostState, state_of}
use Rattle.std.proofs.Common.{◌∙◌}

pub returns-in-Some-clause-state : goal.returns-in-Some-clause-state
returns-in-Some-clause-state c read =
    let h : HostState = state_of read c.args.host.now.kept in
    let found = turned_on h c.args.at.now c.args.mode c.args.name c.args.number c.args.job c.in-Some.who c.in-Some.next c.in-Some.ensures.exact in
    c.carry_lease.ensures.state found.0 found.1 found.2 read ∙ found.3
