use Rattle.sl_host_law.specs.Answers.CarriedDecisions.{connecting, surveying}
use Rattle.sl_host_state.specs.KeptState.{state_of}
use Rattle.sl_host_state.specs.MadeEffects.{with_reply}
use Rattle.sl_host_work.proofs.Sequences.{for_one}
use Rattle.sl_host_work.proofs.delta.join.Goals as goal
use Rattle.sl_trace.specs.declared.reply.Reply.TheVariants.{Generation}
use Rattle.sl_host.specs.ReplyJoinings.{HasClaims}
use Rattle.std.proofs.Common.{ap, subst, sym, ◌∙◌}

pub returns-in-Some-clause-state : goal.returns-in-Some-clause-state
returns-in-Some-clause-state c read =
    let a = c.args in
    let who = a.who.now in
    c.survey.ensures.state read
    ∙ (ap (surveying who) (c.join_done.ensures.state read)
    ∙ (ap (λ h. surveying who (with_reply c.in-Some.job (Generation a.generation) h)) (c.connect.ensures.state read)
    ∙ for_one who c.in-Some.job (λ j h. surveying who (with_reply j (Generation a.generation) (connecting who a.renewed h))) (state_of read a.host.now.kept) c.in-Some.is))

pub join_done-requires-clause-claimed : goal.join_done-requires-clause-claimed
join_done-requires-clause-claimed c = subst (HasClaims c.in-Some.job) (sym c.connect.ensures.members) (c.requires.claimed c.in-Some.job c.in-Some.is)
