use Rattle.sl_host_answers.proofs.LeasesStand.{goes_further, goes_nowhere}
use Rattle.sl_host_answers.proofs.leases.answer_lease_read.Goals as goal
use Rattle.sl_host_answers.specs.Facts.{ToldKnown}
use Rattle.sl_host_state.specs.KeptState.{state_of}
use Rattle.sl_trace.specs.declared.effects.Spot.{Spot}
use Rattle.sl_trace.specs.declared.input.Answer.TheVariants.{Read}
use Rattle.std.proofs.Common.{subst, sym, ◌∙◌}

pub next_read-requires-clause-known : goal.next_read-requires-clause-known
next_read-requires-clause-known c =
    let a = c.args in
    let P : Spot → Type 0 = λ s. ToldKnown a.host.now.kept s a.call.now.session a.work a.step c.requires.known.0 a.told.now a.blocks.now in
    (c.requires.known.0, subst P (sym c.area_of-at.ensures) c.requires.known.1)

pub returns-in-Some-clause-state : goal.returns-in-Some-clause-state
returns-in-Some-clause-state c bytes known read =
    let a = c.args in
    let P : Spot → Type 0 = λ s. ToldKnown a.host.now.kept s a.call.now.session a.work a.step bytes a.told.now a.blocks.now in
    let went = goes_further (state_of read a.host.now.kept) a.call.now a.work a.step (Read bytes) a.call.now.session c.in-Some.who c.in-Some.next c.area_of-at.result c.area_of-at.ensures
    (c.in-Some.ensures.exact bytes (subst P (sym c.area_of-at.ensures) known)) in
    c.carry_lease.ensures.state went.0 went.1 went.2 read ∙ went.3

pub returns-in-None-clause-state : goal.returns-in-None-clause-state
returns-in-None-clause-state c bytes known read =
    let a = c.args in
    let P : Spot → Type 0 = λ s. ToldKnown a.host.now.kept s a.call.now.session a.work a.step bytes a.told.now a.blocks.now in
    goes_nowhere (state_of read a.host.now.kept) a.call.now a.work a.step (Read bytes) a.call.now.session c.area_of-at.result c.area_of-at.ensures
    (c.in-None.ensures.exact bytes (subst P (sym c.area_of-at.ensures) known))
