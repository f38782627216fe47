use Rattle.sl_host_passes.proofs.LastActs.{finishes_on}
use Rattle.sl_host_passes.proofs.session_finish.end_member.Goals as goal
use Rattle.sl_host_passes.specs.SessionFinish.{lasting_on}
use Rattle.sl_host_state.specs.KeptState.{state_of}
use Rattle.std.proofs.Common.{ap, ◌∙◌}

pub returns-in-Some-clause-state : goal.returns-in-Some-clause-state
returns-in-Some-clause-state c read =
    let h = state_of read c.args.host.now.kept in
    c.carry.ensures.state read ∙ (ap (λ o. lasting_on o h) c.in-Some.ensures.exact ∙ finishes_on h c.args.number)
