use Rattle.sl_host.specs.BookQuestions.{state_in}
use Rattle.sl_host_answers.proofs.leases.member_next_read.Goals as goal
use Rattle.sl_host_law.specs.Steps.Leases.{answered_next}
use Rattle.sl_host_work.proofs.ReadsGive.{blocks_are}
use Rattle.sl_host_work.specs.LeaseQuestions.{MayAsk}
use Rattle.sl_host_work.specs.SectorPlaces.{IsPlaced}
use Rattle.sl_sector.specs.declared.sector.Block.{Block}
use Rattle.sl_trace.specs.declared.lease.Aim.{Aim}
use Rattle.sl_trace.specs.declared.lease.LeaseNext.{LeaseNext}
use Rattle.sl_trace.specs.declared.session.Session.{Session}
use Rattle.sl_trace.specs.declared.input.Answer.TheVariants.{Read}
use Rattle.std.proofs.Common.{ap, refl, subst, sym, ◌∙◌}
use Rattle.std.specs.Prelude.{List, Option, Some, option_map}

pub next_after_read-requires-clause-may : goal.next_after_read-requires-clause-may
next_after_read-requires-clause-may c =
    let a = c.args in
    let m = a.member.now.state in
    let bytes = c.requires.known.0 in
    let it = c.requires.known.1 (c.in-Some.ensures.goes refl) in
    subst (λ (bs : List (Option Block)). MayAsk (state_in a.host.now.kept) m a.at.now bs)
    (sym (blocks_are a.host.now.kept.config.sizes m a.at.now a.step bytes a.told.now a.blocks.now it.shown)) it.known.asked

pub next_after_read-requires-clause-named : goal.next_after_read-requires-clause-named
next_after_read-requires-clause-named c = (c.requires.known.1 (c.in-Some.ensures.goes refl)).known.named

pub next_after_read-requires-clause-shown : goal.next_after_read-requires-clause-shown
next_after_read-requires-clause-shown c = (c.requires.known.0, (c.requires.known.1 (c.in-Some.ensures.goes refl)).shown)

pub returns-in-Some-clause-exact : goal.returns-in-Some-clause-exact
returns-in-Some-clause-exact c bytes known =
    let a = c.args in
    let m = a.member.now.state in
    let h = state_in a.host.now.kept in
    let both : Session → LeaseNext → Option (Session × LeaseNext) = λ s n. Some (s, n) in
    let found : Option Aim → Option (Session × LeaseNext) = λ o. option_map (λ aim. (m.who, answered_next h m a.at.now a.call.now aim a.step (Read bytes))) o in
    (λ i. both (c.who.ensures i) (c.next_after_read.ensures.exact a.call.now bytes (known (c.in-Some.ensures.goes refl)).shown i)) ∙ ap found c.in-Some.ensures.exact

pub returns-in-Some-clause-turned : goal.returns-in-Some-clause-turned
returns-in-Some-clause-turned c = (c.who.ensures, c.next_after_read.ensures.turned)

pub returns-in-Some-clause-fit : goal.returns-in-Some-clause-fit
returns-in-Some-clause-fit c =
    let known = (c.requires.known.1 (c.in-Some.ensures.goes refl)).known in
    (c.next_after_read.ensures.fit, subst (λ (s : Session). IsPlaced c.args.host.now.kept.config.sizes s) (sym c.who.ensures) known.placed, known.area)
