use Rattle.sl_delta.specs.OwnSector.{answer_in}
use Rattle.sl_host_answers.proofs.OwnSectorsStand.{joins_next}
use Rattle.sl_host_answers.proofs.own_sectors.join_answer.Goals as goal
use Rattle.sl_host_answers.specs.declared.own_sectors.JoinAnswer.{JoinAnswer}
use Rattle.sl_trace.specs.declared.delta.DeltaNext.{DeltaNext}
use Rattle.sl_trace.specs.declared.session.Session.{Session}
use Rattle.std.specs.Prelude.{Bool}

pub returns-clause-exact : goal.returns-clause-exact
returns-clause-exact c =
    let a = c.args in
    let made : Session → Bool → DeltaNext → JoinAnswer = λ s r n. record { who = s; refused = r; next = n } in
    let next = joins_next a.host.now.kept a.member.now c.reading.result a.call.now a.step (answer_in a.answer.now) c.after_join.result c.requires.run c.reading.ensures c.after_join.ensures.exact in
    λ i. made (c.who.ensures i) (c.is_refused.ensures i) (next i)
