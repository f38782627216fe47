use Rattle.sl_host_answers.proofs.LeasesStand.{goes_further, goes_nowhere}
use Rattle.sl_host_answers.proofs.leases.answer_lease_failed.Goals as goal
use Rattle.sl_host_answers.specs.Facts.{WorkKnown}
use Rattle.sl_host_state.specs.KeptState.{state_of}
use Rattle.sl_trace.specs.declared.effects.Spot.{Spot}
use Rattle.sl_trace.specs.declared.input.Answer.TheVariants.{Failed}
use Rattle.std.proofs.Common.{subst, sym, ◌∙◌}

pub next_failure-requires : goal.next_failure-requires
next_failure-requires c =
    let P : Spot → Type 0 = λ s. WorkKnown c.args.host.now.kept s c.args.call.now.session c.args.work c.args.step in record { known = subst P (sym c.area_of-at.ensures) c.requires.known }

pub returns-in-Some-clause-state : goal.returns-in-Some-clause-state
returns-in-Some-clause-state c read =
    let a = c.args in
    let went = goes_further (state_of read a.host.now.kept) a.call.now a.work a.step Failed a.call.now.session c.in-Some.who c.in-Some.next c.area_of-at.result c.area_of-at.ensures c.in-Some.ensures.exact in
    c.carry_lease.ensures.state went.0 went.1 went.2 read ∙ went.3

pub returns-in-None-clause-state : goal.returns-in-None-clause-state
returns-in-None-clause-state c read =
    let a = c.args in
    goes_nowhere (state_of read a.host.now.kept) a.call.now a.work a.step Failed a.call.now.session c.area_of-at.result c.area_of-at.ensures c.in-None.ensures.exact
