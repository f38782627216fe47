use Rattle.sl_host_answers.proofs.OwnSectorsStand.{renewing_by, renews}
use Rattle.sl_host_answers.proofs.own_sectors.answer_renewed.Goals as goal
use Rattle.sl_host_state.specs.KeptState.{state_of}
use Rattle.std.proofs.Common.{ap, ◌∙◌}

pub returns-in-Some-clause-state : goal.returns-in-Some-clause-state
returns-in-Some-clause-state c read =
    let h = state_of read c.args.host.now.kept in
    c.move_renewed.ensures.state read ∙ (ap (λ o. renewing_by o c.args.call.now.reading h) c.in-Some.ensures.exact ∙ renews c.args.call.now.session c.args.call.now.reading h)

pub returns-in-None-clause-state : goal.returns-in-None-clause-state
returns-in-None-clause-state c read =
    let h = state_of read c.args.host.now.kept in
    ap (λ o. renewing_by o c.args.call.now.reading h) c.in-None.ensures.exact ∙ renews c.args.call.now.session c.args.call.now.reading h
