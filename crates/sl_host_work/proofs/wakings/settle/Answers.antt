use Rattle.sl_host_state.specs.KeptState.{state_of}
use Rattle.sl_host_work.proofs.WakingStands.{settles_on}
use Rattle.sl_host_work.proofs.wakings.settle.Goals as goal
use Rattle.std.proofs.Common.{◌∙◌}

pub returns-in-Some-clause-state : goal.returns-in-Some-clause-state
returns-in-Some-clause-state c read =
    let found = settles_on (state_of read c.args.host.now.kept) c.args.at.now c.args.number c.in-Some.who c.in-Some.next c.in-Some.ensures.exact in
    c.carry_lease.ensures.state found.0 found.1 found.2 read ∙ found.3
