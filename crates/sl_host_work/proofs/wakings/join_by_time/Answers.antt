use Rattle.sl_host_state.specs.KeptState.{state_of}
use Rattle.sl_host_work.proofs.WakingStands.{joins_on}
use Rattle.sl_host_work.proofs.wakings.join_by_time.Goals as goal
use Rattle.sl_host_work.specs.TimedWork.{joining_on}
use Rattle.std.proofs.Common.{ap, ◌∙◌}

pub returns-in-Some-clause-state : goal.returns-in-Some-clause-state
returns-in-Some-clause-state c read =
    let h = state_of read c.args.host.now.kept in
    c.carry.ensures.state read ∙ (ap (λ o. joining_on o h) c.in-Some.ensures.exact ∙ joins_on h c.args.number)
