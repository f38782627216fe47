use Rattle.sl_host_answers.proofs.leases.member_next_write.Goals as goal
use Rattle.sl_host_law.specs.Steps.Leases.{answered_next}
use Rattle.sl_host_work.specs.SectorPlaces.{IsPlaced}
use Rattle.sl_trace.specs.declared.lease.Aim.{Aim}
use Rattle.sl_trace.specs.declared.lease.LeaseNext.{LeaseNext}
use Rattle.sl_trace.specs.declared.session.Session.{Session}
use Rattle.sl_trace.specs.declared.input.Answer.TheVariants.{Written}
use Rattle.sl_host.specs.BookQuestions.{state_in}
use Rattle.std.proofs.Common.{ap, refl, subst, sym, ◌∙◌}
use Rattle.std.specs.Prelude.{Option, Some, option_map}

pub next_after_write-requires-clause-may : goal.next_after_write-requires-clause-may
next_after_write-requires-clause-may c = (c.requires.known (c.in-Some.ensures.goes refl)).asked

pub next_after_write-requires-clause-named : goal.next_after_write-requires-clause-named
next_after_write-requires-clause-named c = (c.requires.known (c.in-Some.ensures.goes refl)).named

pub returns-in-Some-clause-exact : goal.returns-in-Some-clause-exact
returns-in-Some-clause-exact c =
    let a = c.args in
    let m = a.member.now.state in
    let h = state_in a.host.now.kept in
    let both : Session → LeaseNext → Option (Session × LeaseNext) = λ s n. Some (s, n) in
    let found : Option Aim → Option (Session × LeaseNext) = λ o. option_map (λ aim. (m.who, answered_next h m a.at.now a.call.now aim a.step Written)) o in
    (λ i. both (c.who.ensures i) (c.next_after_write.ensures.exact i)) ∙ ap found c.in-Some.ensures.exact

pub returns-in-Some-clause-turned : goal.returns-in-Some-clause-turned
returns-in-Some-clause-turned c = (c.who.ensures, c.next_after_write.ensures.turned)

pub returns-in-Some-clause-fit : goal.returns-in-Some-clause-fit
returns-in-Some-clause-fit c =
    let known = c.requires.known (c.in-Some.ensures.goes refl) in
    (c.next_after_write.ensures.fit, subst (λ (s : Session). IsPlaced c.args.host.now.kept.config.sizes s) (sym c.who.ensures) known.placed, known.area)
