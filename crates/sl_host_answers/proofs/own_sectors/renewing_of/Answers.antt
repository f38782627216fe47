use Rattle.sl_host_answers.proofs.own_sectors.renewing_of.Goals as goal
use Rattle.sl_host_work.specs.SectorPlaces.{IsPlaced}
use Rattle.sl_member.specs.HostMembers.{member_with}
use Rattle.sl_trace.specs.declared.session.Session.{Session}
use Rattle.std.proofs.Common.{ap, subst, sym, ◌∙◌}

pub returns-in-Some-clause-placed : goal.returns-in-Some-clause-placed
returns-in-Some-clause-placed c =
    let at = sym (c.in-Some.ensures.exact ∙ ap (member_with c.args.number) c.members.ensures.members) in
    subst (λ (s : Session). IsPlaced c.args.host.now.kept.config.sizes s) (sym c.who.ensures) (c.requires c.args.number c.in-Some.member.now.state at)
