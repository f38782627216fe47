use Rattle.sl_host_lines.proofs.line_ends.turning_of.Goals as goal
use Rattle.sl_host_work.proofs.TurnsStand.{is_turned}
use Rattle.sl_member.specs.HostMembers.{member_with}
use Rattle.std.proofs.Common.{ap, sym, ◌∙◌}

pub turning_next-requires-clause-may : goal.turning_next-requires-clause-may
turning_next-requires-clause-may c = c.requires.may _ (sym (c.in-Some.ensures.exact ∙ ap (member_with c.args.number) c.members.ensures.members))

pub returns-in-Some-clause-turned : goal.returns-in-Some-clause-turned
returns-in-Some-clause-turned c =
    λ writes. is_turned c.args.host.now.kept c.args.at.now c.args.number c.in-Some.member.now.state c.who.result.now
    (sym (c.in-Some.ensures.exact ∙ ap (member_with c.args.number) c.members.ensures.members)) c.who.ensures (c.turning_next.ensures.turned writes)
