use Rattle.sl_host_lines.proofs.EndsStand.{freed_turned}
use Rattle.sl_host_lines.proofs.line_ends.freed_of.Goals as goal
use Rattle.sl_member.specs.HostMembers.{member_with}
use Rattle.std.proofs.Common.{ap, sym, ◌∙◌}

pub freed_next-requires-clause-may : goal.freed_next-requires-clause-may
freed_next-requires-clause-may c = c.requires.may _ (sym (c.in-Some.ensures.exact ∙ ap (member_with c.args.number) c.members.ensures.members))

pub returns-in-Some-clause-turned : goal.returns-in-Some-clause-turned
returns-in-Some-clause-turned c =
    freed_turned c.args.host.now.kept c.args.ended.now c.args.number c.in-Some.member.now.state c.who.result.now c.freed_next.result
    (sym (c.in-Some.ensures.exact ∙ ap (member_with c.args.number) c.members.ensures.members)) c.who.ensures c.freed_next.ensures.turned
