use Rattle.sl_host_state.specs.KeptState.{state_of}
use Rattle.sl_host_work.proofs.WakingStands.{renewed}
use Rattle.sl_host_work.proofs.wakings.renew.Goals as goal
use Rattle.sl_host_work.specs.TimedWork.{renewing_by}
use Rattle.std.proofs.Common.{ap, ◌∙◌}

pub returns-in-Some-clause-state : goal.returns-in-Some-clause-state
returns-in-Some-clause-state c read =
    let h = state_of read c.args.host.now.kept in
    c.write_own.ensures.state read ∙ (ap (λ o. renewing_by o h) c.in-Some.ensures.exact ∙ renewed h c.args.number)
