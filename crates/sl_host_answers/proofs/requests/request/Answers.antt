use Rattle.sl_host_answers.proofs.RequestsStand.{refuses, writes}
use Rattle.sl_host_answers.proofs.requests.request.Goals as goal
use Rattle.sl_host_law.specs.Answers.Requests.{writing_request}
use Rattle.sl_host_state.specs.KeptState.{state_of}
use Rattle.std.proofs.Common.{ap, ◌∙◌}

pub returns-in-Some-clause-state : goal.returns-in-Some-clause-state
returns-in-Some-clause-state g c read =
    let a = c.args in
    let h = state_of read a.host.now.kept in
    let of = c.asked_of-read in
    c.reply.ensures.state read
    ∙ refuses a.who.now a.job a.resource.now a.asked a.force (g.S.Sectors.bytes a.sectors.now) h of.result.leader of.result.request of.ensures.leader of.ensures.request c.in-Some.reply c.in-Some.ensures.exact

pub returns-in-None-clause-state : goal.returns-in-None-clause-state
returns-in-None-clause-state g c read =
    let a = c.args in
    let h = state_of read a.host.now.kept in
    let of = c.asked_of-read in
    c.write_request.ensures.state read
    ∙ (ap (λ o. writing_request a.who.now a.job o a.resource.now a.asked a.force h) c.owner_of-owner.ensures
    ∙ writes a.who.now a.job a.resource.now a.asked a.force (g.S.Sectors.bytes a.sectors.now) h of.result.leader of.result.request of.ensures.leader of.ensures.request c.in-None.ensures.exact)
