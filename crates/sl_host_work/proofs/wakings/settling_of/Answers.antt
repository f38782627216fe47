use Rattle.sl_host_work.proofs.TurnsStand.{turned_for}
use Rattle.sl_host_work.proofs.wakings.settling_of.Goals as goal
use Rattle.sl_member.specs.HostMembers.{member_with}
use Rattle.std.proofs.Common.{ap, sym, ◌∙◌}

pub member_settling-requires-clause-may : goal.member_settling-requires-clause-may
member_settling-requires-clause-may c = c.requires.may _ (sym (c.in-Some.ensures.exact ∙ ap (member_with c.args.number) c.members.ensures.members))

pub returns-in-Some-clause-turned : goal.returns-in-Some-clause-turned
returns-in-Some-clause-turned c =
    turned_for c.args.host.now.kept c.args.at.now c.args.number c.in-Some.member.now.state c.member_settling.result
    (sym (c.in-Some.ensures.exact ∙ ap (member_with c.args.number) c.members.ensures.members)) c.member_settling.ensures.turned
