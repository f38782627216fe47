use Rattle.sl_host_law.specs.Answers.LeaseDecisions.{granting_for}
use Rattle.sl_host_state.specs.KeptState.{state_of}
use Rattle.sl_host_work.proofs.grants.grant_for.Goals as goal
use Rattle.std.proofs.Common.{ap, sym, ◌∙◌}

pub returns-in-RunProgram-clause-state : goal.returns-in-RunProgram-clause-state
returns-in-RunProgram-clause-state c read =
    let a = c.args in
    c.start.ensures.state read ∙ sym (ap (λ v. granting_for a.who.now a.job v a.mode a.lver (state_of read a.host.now.kept)) c.in-RunProgram.is)
